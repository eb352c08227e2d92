use Rattle.std.proofs.Common.{sym, ap, ◌∙◌, subst}
use Rattle.fronts.specs.declared.view.View.{View}
use Rattle.fronts.specs.Calls.{KeepsCalls}
use Rattle.fronts.specs.Views.{own_calls}
use Rattle.fronts.proofs.TokenSteps.{keeps_calls, own_calls_stay}
use Rattle.fronts.proofs.fronts.Fronts.meet.Goals as goal

pub returns-clause-calls : goal.returns-clause-calls
returns-clause-calls g c =
    let start = g.O.Origin.start in
    let first = keeps_calls start c.note_as-seen.new.token c.take_as-2.new.token c.take_as-2.ensures.follows.first in
    let second = keeps_calls start c.other.inside.token c.take_as.new.token c.take_as.ensures.follows.first in (
      subst (λ (v : View). KeepsCalls v c.take_as-2.new.token) (c.note_as-seen.ensures.kept ∙ c.pass.view_is) first,
      subst (λ (v : View). KeepsCalls v c.note_as-longer.new.token) c.other.view_is (subst (λ (w : View). KeepsCalls c.other.inside.token w) (sym c.note_as-longer.ensures.kept) second),
    )

pub returns-clause-own : goal.returns-clause-own
returns-clause-own g c =
    let start = g.O.Origin.start in
    let new = c.take_as-2.new.token in
    let last = c.note_as-longer.new.token in
    let first = subst (λ (v : View). KeepsCalls v new) c.note_as-seen.ensures.kept (keeps_calls start c.note_as-seen.new.token new c.take_as-2.ensures.follows.first) in
    let second = subst (λ (w : View). KeepsCalls c.other.inside.token w) (sym c.note_as-longer.ensures.kept) (keeps_calls start c.other.inside.token c.take_as.new.token c.take_as.ensures.follows.first) in (
      own_calls_stay start c.pass.inside.token new c.pass.invariant (ap (λ (v : View). v.number) c.take_as-2.ensures.view ∙ ap (λ (v : View). v.number) c.note_as-seen.ensures.kept) first ∙ ap own_calls c.pass.view_is,
      own_calls_stay start c.other.inside.token last c.other.invariant (ap (λ (v : View). v.number) c.note_as-longer.ensures.kept ∙ ap (λ (v : View). v.number) c.take_as.ensures.view) second ∙ ap own_calls c.other.view_is,
    )
