use Rattle.std.proofs.Common.{◌≡◌, List, sym, ap, ◌∙◌, subst}
use Rattle.std.specs.Prelude.{Contains}
use Rattle.fronts.specs.declared.claim.Claim.{Claim}
use Rattle.fronts.specs.declared.claim.Claim.TheVariants.{Number}
use Rattle.fronts.specs.declared.view.View.{View}
use Rattle.fronts.proofs.Pairs.{both_numbers}
use Rattle.fronts.proofs.demonstration.finish.Goals as goal

pub close-requires-clause-joined : goal.close-requires-clause-joined
close-requires-clause-joined g c =
    let last = c.settle.new.pass in
    let claims : last.claims ≡ c.args.last.claims = ap (λ (v : View). v.claims) c.settle.ensures ∙ ap (λ (v : View). v.claims) c.read-durable.ensures.view in
    let next : last.next ≡ c.args.last.next = ap (λ (v : View). v.next) c.settle.ensures ∙ ap (λ (v : View). v.next) c.read-durable.ensures.view in
    both_numbers last (subst (λ (l : List Claim). Contains l (Number 1)) (sym claims) c.requires.numbers.0) (subst (λ (l : List Claim). Contains l (Number 2)) (sym claims) c.requires.numbers.1) (next ∙ c.requires.next)
