use Rattle.std.proofs.Common.{ap, ◌∙◌, subst}
use Rattle.fronts.specs.declared.view.View.{View}
use Rattle.fronts.specs.Calls.{KeepsCalls}
use Rattle.fronts.specs.Views.{own_calls}
use Rattle.fronts.proofs.TokenSteps.{keeps_calls, own_calls_stay, pass_with_front}
use Rattle.fronts.proofs.fronts.Fronts.look.Goals as goal

pub invariant_of-pass : goal.invariant_of-pass
invariant_of-pass g c =
    let h = c.look_as.ensures in pass_with_front g.O.Origin.start c.pass.inside.token c.look_as.new.token h.view h.history c.pass.invariant

pub returns-clause-calls : goal.returns-clause-calls
returns-clause-calls g c =
    subst (λ (v : View). KeepsCalls v c.look_as.new.token) c.pass.view_is (keeps_calls g.O.Origin.start c.pass.inside.token c.look_as.new.token c.look_as.ensures.follows)

pub returns-clause-own : goal.returns-clause-own
returns-clause-own g c =
    let keeps = keeps_calls g.O.Origin.start c.pass.inside.token c.look_as.new.token c.look_as.ensures.follows in
    own_calls_stay g.O.Origin.start c.pass.inside.token c.look_as.new.token c.pass.invariant (ap (λ (v : View). v.number) c.look_as.ensures.view) keeps ∙ ap own_calls c.pass.view_is
