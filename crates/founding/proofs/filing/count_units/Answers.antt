use Rattle.std.proofs.Common.{◌∙◌, ◌+◌, ap, subst, sym, vec_capacity, ◌≤◌}
use Rattle.founding.specs.DraftMaps.{own_in, places_in, units_in}
use Rattle.founding.specs.Filing.{IsListed}
use Rattle.founding.specs.declared.draft.TheConstants.{MOST_OWNED}
use Rattle.founding.proofs.filing.count_units.Goals as goal

pub returns-in-Some : goal.returns-in-Some
returns-in-Some c =
    let room = subst IsListed (sym c.in-Some.ensures.value) c.requires.listed in
    record {
      account = c.count_units.new.self;
      listed = ap (λ v. v.items) c.count_units.ensures.planets ∙ ap places_in c.in-Some.ensures.value;
      roomy = subst (λ v. MOST_OWNED ≤ vec_capacity v) (sym c.count_units.ensures.planets) room;
      owned = c.count_units.ensures.own ∙ ap own_in c.in-Some.ensures.value;
      counted = c.count_units.ensures.units ∙ ap (λ found. units_in found + c.args.count) c.in-Some.ensures.value;
      entries = (c.get_mut.follows.holds c.count_units.new.self).0;
    }
