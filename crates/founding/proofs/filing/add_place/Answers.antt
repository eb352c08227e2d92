use Rattle.std.proofs.Common.{◌∙◌, ap, arith, subst, sym, Option}
use Rattle.base_ids.specs.Order.{coord_before}
use Rattle.founding.specs.DraftMaps.{own_in, places_in, units_in}
use Rattle.founding.specs.Drafts.{put}
use Rattle.founding.specs.Filing.{HasRoom}
use Rattle.founding.specs.declared.account_sketch.AccountSketch.{AccountSketch}
use Rattle.founding.proofs.filing.add_place.Goals as goal

pub returns-in-Some : goal.returns-in-Some
returns-in-Some c =
    let room = subst HasRoom (sym c.in-Some.ensures.value) c.requires in
    record {
      account = c.add_place.new.self;
      listed = c.add_place.ensures.planets ∙ ap (λ (found : Option AccountSketch). put coord_before c.args.at (places_in found)) c.in-Some.ensures.value;
      roomy = let more = c.add_place.ensures.capacity in let most = room.1 in omega (arith, more, most);
      owned = c.add_place.ensures.own ∙ ap own_in c.in-Some.ensures.value;
      counted = c.add_place.ensures.units ∙ ap units_in c.in-Some.ensures.value;
      entries = (c.get_mut.follows.holds c.add_place.new.self).0;
    }
