use Rattle.std.proofs.Common.{◌∙◌, ap, subst, sym, vec_capacity, ◌≤◌}
use Rattle.founding.specs.DraftMaps.{own_in, places_in, units_in}
use Rattle.founding.specs.Drafts.{learned_to}
use Rattle.founding.specs.Filing.{IsListed}
use Rattle.founding.specs.declared.draft.TheConstants.{MOST_OWNED}
use Rattle.founding.proofs.filing.teach.Goals as goal

pub returns-in-Some : goal.returns-in-Some
returns-in-Some c =
    let room = subst IsListed (sym c.in-Some.ensures.value) c.requires in
    record {
      account = c.learn.new.self;
      listed = ap (λ v. v.items) c.learn.ensures.planets ∙ ap places_in c.in-Some.ensures.value;
      roomy = subst (λ v. MOST_OWNED ≤ vec_capacity v) (sym c.learn.ensures.planets) room;
      owned = c.learn.ensures.own ∙ ap (λ found. learned_to c.args.new (own_in found)) c.in-Some.ensures.value;
      counted = c.learn.ensures.units ∙ ap units_in c.in-Some.ensures.value;
      entries = (c.get_mut.follows.holds c.learn.new.self).0;
    }
