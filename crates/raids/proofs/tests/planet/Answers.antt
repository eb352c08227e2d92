use Rattle.std.proofs.Common.{◌≤◌, ◌+◌, List, [], arith, subst, sum, sym}
use Rattle.catalog.specs.declared.ships.TheConstants.{UNITS}
use Rattle.planet_cell.proofs.Caps.{caps_fresh, same_within}
use Rattle.planet_cell.proofs.Totals.{begun_empty}
use Rattle.planet_cell.specs.Bounds.{AreWithinCaps, left_in}
use Rattle.planet_cell.specs.declared.batch.Batch.{Batch}
use Rattle.raids.proofs.tests.planet.Goals as goal

pub invariant_of-result-3-clause-within_ten : goal.invariant_of-result-3-clause-within_ten
invariant_of-result-3-clause-within_ten c = λ place. same_within 10 10 5 place (omega arith)

pub invariant_of-result-3-clause-within_levels : goal.invariant_of-result-3-clause-within_levels
invariant_of-result-3-clause-within_levels c = subst (AreWithinCaps _) (sym c.new.ensures.items) caps_fresh

pub invariant_of-result-3-clause-within_units : goal.invariant_of-result-3-clause-within_units
invariant_of-result-3-clause-within_units c =
    let few : sum c.args.units + left_in [] ≤ UNITS = omega (arith, c.requires.units) in
    subst (λ (batches : List Batch). sum c.args.units + left_in batches ≤ UNITS) (sym c.new-2.ensures.items) few

pub invariant_of-result-3-clause-first_begun : goal.invariant_of-result-3-clause-first_begun
invariant_of-result-3-clause-first_begun c = begun_empty c.new-2.result.items c.new-2.ensures.items
