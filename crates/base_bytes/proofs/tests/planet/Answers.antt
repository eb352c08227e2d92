use Rattle.std.proofs.Common.{◌≤◌, ℕ, zero, suc, [], ◌∷◌, arith, subst, sym}
use Rattle.std.specs.List.{slice_index}
use Rattle.planet_cell.proofs.Caps.{caps_fresh}
use Rattle.planet_cell.proofs.Totals.{begun_empty, total_empty}
use Rattle.planet_cell.specs.Bounds.{AreWithinCaps}
use Rattle.base_bytes.proofs.tests.planet.Goals as goal

tenths_within : (place : ℕ) → slice_index (10 ∷ 9 ∷ 8 ∷ 7 ∷ 6 ∷ []) place ≤ 10
tenths_within zero = omega arith
tenths_within (suc zero) = omega arith
tenths_within (suc (suc zero)) = omega arith
tenths_within (suc (suc (suc zero))) = omega arith
tenths_within (suc (suc (suc (suc zero)))) = omega arith
tenths_within (suc (suc (suc (suc (suc place))))) = omega arith

pub invariant_of-result-3-clause-within_ten : goal.invariant_of-result-3-clause-within_ten
invariant_of-result-3-clause-within_ten c = tenths_within

pub invariant_of-result-3-clause-within_levels : goal.invariant_of-result-3-clause-within_levels
invariant_of-result-3-clause-within_levels c = subst (AreWithinCaps _) (sym c.new.ensures.items) caps_fresh

pub invariant_of-result-3-clause-within_units : goal.invariant_of-result-3-clause-within_units
invariant_of-result-3-clause-within_units c = total_empty c.new-2.result.items c.new-2.ensures.items

pub invariant_of-result-3-clause-first_begun : goal.invariant_of-result-3-clause-first_begun
invariant_of-result-3-clause-first_begun c = begun_empty c.new-2.result.items c.new-2.ensures.items
