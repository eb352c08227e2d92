use Rattle.std.proofs.Common.{◌≡◌, ℕ, ◌+◌, length, drop, ap, ◌∙◌, arith}
use Rattle.battle.proofs.UnitCounts.{length-rest, rest_of}
use Rattle.battle.proofs.ready.side_count.Goals as goal

pub parts-preserved : goal.parts-preserved
parts-preserved c =
    let i = c.parts.part-index in
    let later = length (rest_of (i + 1) (drop (i + 1) c.args.parts.now)) in
    let e : length (rest_of i (drop i c.args.parts.now)) ≡ c.unit_count-units.result + later =
    length-rest c.args.parts.now i _ (omega arith) ∙ ap (λ (n : ℕ). n + later) (c.unit_count-units.ensures.value i) in
    record { same = omega (arith, e, c.parts.invariant.same); most = omega (arith, e, c.parts.invariant.same) }
