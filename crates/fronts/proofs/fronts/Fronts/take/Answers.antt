use Rattle.std.proofs.Common.{ap, ◌∙◌, subst}
use Rattle.fronts.specs.declared.view.View.{View}
use Rattle.fronts.specs.Calls.{KeepsCalls}
use Rattle.fronts.specs.Views.{own_calls}
use Rattle.fronts.proofs.TokenSteps.{keeps_calls, own_calls_stay}
use Rattle.fronts.proofs.fronts.Fronts.take.Goals as goal

pub returns-clause-calls : goal.returns-clause-calls
returns-clause-calls g c =
    let h = c.take_as.ensures.follows in
    let new = c.take_as.new.token in (
      subst (λ (v : View). KeepsCalls v new) c.pass.view_is (keeps_calls g.O.Origin.start c.pass.inside.token new h.first),
      subst (λ (v : View). KeepsCalls v new) c.note.view_is (keeps_calls g.O.Origin.start c.note.inside.token new h.second),
    )

pub returns-clause-own : goal.returns-clause-own
returns-clause-own g c =
    let new = c.take_as.new.token in
    let keeps = keeps_calls g.O.Origin.start c.pass.inside.token new c.take_as.ensures.follows.first in
    own_calls_stay g.O.Origin.start c.pass.inside.token new c.pass.invariant (ap (λ (v : View). v.number) c.take_as.ensures.view) keeps ∙ ap own_calls c.pass.view_is
