use Rattle.std.proofs.Common.{◌≡◌, List, sym, ap, ◌∙◌, subst}
use Rattle.fronts.specs.declared.view.View.{View}
use Rattle.fronts.specs.Calls.{KeepsCalls}
use Rattle.fronts.specs.Views.{own_calls}
use Rattle.fronts.specs.History.{calls_by}
use Rattle.fronts.specs.declared.claim.Claim.{Claim}
use Rattle.fronts.specs.declared.claim.Claim.TheVariants.{Number}
use Rattle.std.specs.Prelude.{Contains}
use Rattle.std.proofs.lemmas.List.Elements.{Contains-append_left, Contains-append_right}
use Rattle.fronts.proofs.TokenSteps.{keeps_calls, own_calls_stay}
use Rattle.fronts.proofs.fronts.Fronts.join.Goals as goal

pub returns-clause-calls : goal.returns-clause-calls
returns-clause-calls g c =
    let h = c.take_as.ensures.follows in
    let new = c.take_as.new.token in (
      subst (λ (v : View). KeepsCalls v new) c.pass.view_is (keeps_calls g.O.Origin.start c.pass.inside.token new h.first),
      subst (λ (v : View). KeepsCalls v new) c.other.view_is (keeps_calls g.O.Origin.start c.other.inside.token new h.second),
    )

pub returns-clause-own : goal.returns-clause-own
returns-clause-own g c =
    let new = c.take_as.new.token in
    let keeps = keeps_calls g.O.Origin.start c.pass.inside.token new c.take_as.ensures.follows.first in
    own_calls_stay g.O.Origin.start c.pass.inside.token new c.pass.invariant (ap (λ (v : View). v.number) c.take_as.ensures.view) keeps ∙ ap own_calls c.pass.view_is

pub returns-clause-ended : goal.returns-clause-ended
returns-clause-ended g c =
    let new = c.take_as.new.token in
    let keeps = keeps_calls g.O.Origin.start c.other.inside.token new c.take_as.ensures.follows.second in
    subst (λ (v : View). calls_by v.number new.front ≡ own_calls v) c.other.view_is (keeps c.other.inside.token.number c.other.invariant.own_number)

pub returns-clause-numbers : goal.returns-clause-numbers
returns-clause-numbers g c =
    let v = c.pass.inside.token in
    let w = c.other.inside.token in
    let claims = ap (λ (u : View). u.claims) c.take_as.ensures.view in
    let first : Contains c.take_as.new.token.claims (Number v.number) = subst (λ (cs : List Claim). Contains cs (Number v.number)) (sym claims) (Contains-append_left v.claims w.claims (Number v.number) c.pass.invariant.own_number) in
    let second : Contains c.take_as.new.token.claims (Number w.number) = subst (λ (cs : List Claim). Contains cs (Number w.number)) (sym claims) (Contains-append_right v.claims w.claims (Number w.number) c.other.invariant.own_number) in (
      subst (λ (u : View). Contains c.take_as.new.token.claims (Number u.number)) c.pass.view_is first,
      subst (λ (u : View). Contains c.take_as.new.token.claims (Number u.number)) c.other.view_is second,
    )
