use Rattle.std.proofs.Common.{◌≡◌, List, [], ◌∷◌, sym, ap, ◌∙◌, subst}
use Rattle.std.specs.Prelude.{Contains}
use Rattle.std.proofs.lemmas.List.Elements.{Contains-append_left, Contains-append_right, Contains-push}
use Rattle.fronts.specs.declared.claim.Claim.{Claim}
use Rattle.fronts.specs.declared.claim.Claim.TheVariants.{Pen, Flush, Number}
use Rattle.fronts.specs.declared.view.View.{View}
use Rattle.fronts.specs.History.{calls_by}
use Rattle.fronts.specs.Views.{own_calls}
use Rattle.fronts.proofs.Pairs.{has_only}
use Rattle.fronts.proofs.demonstration.unite.Goals as goal

pub returns-clause-rights : goal.returns-clause-rights
returns-clause-rights g c =
    let last = c.take_pen-count.new.pass in
    let before = c.take.new.pass in
    let claims = c.take_pen-count.ensures.claims in
    let flush = Contains-append_right c.join.new.pass.claims c.args.flush.claims Flush (has_only Flush c.args.flush.claims c.requires.flush) in
    let then : Contains before.claims Flush = subst (λ (l : List Claim). Contains l Flush) (sym (ap (λ (v : View). v.claims) c.take.ensures.view)) flush in (
      subst (λ (l : List Claim). Contains l Pen) (sym claims) (Contains-push before.claims Pen),
      subst (λ (l : List Claim). Contains l Flush) (sym claims) (Contains-append_left before.claims (Pen ∷ []) Flush then),
    )

pub returns-clause-calls : goal.returns-clause-calls
returns-clause-calls g c =
    let last = c.take_pen-count.new.pass in
    let before = c.take.new.pass in
    let joined = c.join.new.pass in
    let met = c.meet.new.pass in
    let other = c.meet.new.other in
    let n = other.number in
    let number : last.number ≡ 1 = c.take_pen-count.ensures.same.number ∙ ap (λ (v : View). v.number) c.take.ensures.view ∙ ap (λ (v : View). v.number) c.join.ensures.view ∙ ap (λ (v : View). v.number) c.meet.ensures.pass ∙ c.requires.numbers.0 in
    let two : n ≡ 2 = ap (λ (v : View). v.number) c.meet.ensures.other ∙ c.requires.numbers.1 in
    let own : own_calls last ≡ own_calls c.args.first.now = c.take_pen-count.ensures.own ∙ c.take.ensures.own ∙ c.join.ensures.own ∙ c.meet.ensures.own.0 in
    let there : Contains joined.claims (Number n) = c.join.ensures.numbers.1 in
    let still : Contains before.claims (Number n) = subst (λ (l : List Claim). Contains l (Number n)) (sym (ap (λ (v : View). v.claims) c.take.ensures.view)) (Contains-append_left joined.claims c.args.flush.claims (Number n) there) in
    let ended : calls_by n last.front ≡ own_calls c.args.second = c.take_pen-count.ensures.calls n still ∙ c.take.ensures.calls.0 n there ∙ c.join.ensures.ended ∙ c.meet.ensures.own.1 in (
      subst (λ m. calls_by m last.front ≡ own_calls c.args.first.now) number own,
      subst (λ m. calls_by m last.front ≡ own_calls c.args.second) two ended,
    )
