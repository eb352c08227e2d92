use Rattle.std.proofs.Common.{arith, subst, sym}
use Rattle.planet_cell.proofs.Caps.{caps_fresh, same_within}
use Rattle.planet_cell.proofs.Totals.{begun_empty, total_empty}
use Rattle.planet_cell.specs.Bounds.{AreWithinCaps}
use Rattle.happenings.proofs.tests.planet.Goals as goal

pub invariant_of-result-clause-within_ten : goal.invariant_of-result-clause-within_ten
invariant_of-result-clause-within_ten c = λ place. same_within 10 10 5 place (omega arith)

pub invariant_of-result-clause-within_levels : goal.invariant_of-result-clause-within_levels
invariant_of-result-clause-within_levels c = subst (AreWithinCaps _) (sym c.new.ensures.items) caps_fresh

pub invariant_of-result-clause-within_units : goal.invariant_of-result-clause-within_units
invariant_of-result-clause-within_units c = total_empty c.new-2.result.items c.new-2.ensures.items

pub invariant_of-result-clause-first_begun : goal.invariant_of-result-clause-first_begun
invariant_of-result-clause-first_begun c = begun_empty c.new-2.result.items c.new-2.ensures.items
