use Rattle.std.proofs.Common.{rules, tests, ◌≡◌, ◌≢◌, arith, Some}
use Rattle.std.proofs.lemmas.Iterator.{IsFirst-from_position, YieldsList-from_slice}
use Rattle.base_text.proofs.Splitting.{cut_range}
use Rattle.base_text.proofs.cutting.cut.Goals as goal

pub returns-clause-split : goal.returns-clause-split
returns-clause-split c =
    let text = c.args.text.now in
    let first = IsFirst-from_position _ _ (Some c.in_ok-at.at) (λ x. x ≡ c.args.separator) (λ x. x ≢ c.args.separator) c.in_ok-at.ensures.ran (YieldsList-from_slice text cc) (λ x q k. search (rules, tests)) (λ x q k. search (rules, tests)) in
    cut_range c.args.separator text c.in_ok-at.at first.0 (λ k before. first.2 k 0 (omega arith) before) (first.1 0)
