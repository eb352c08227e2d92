use Rattle.std.proofs.Common.{arith, refl}
use Rattle.planet_cell.proofs.Batches.{begun_numbered, total_numbered}
use Rattle.planet_cell.proofs.Starts.{numbers}
use Rattle.planet_cell.specs.Planet.{batch_item_of}
use Rattle.planet_cell.proofs.planet.Planet.number_last_batch.Goals as goal

pub invariant_of-self-clause-within_units : goal.invariant_of-self-clause-within_units
invariant_of-self-clause-within_units c =
    let planet = c.args.self.now in
    total_numbered planet.units planet.yard.items _ c.index-batch.result.now _ planet.within_units (omega arith) c.index-batch.ensures refl

pub invariant_of-self-clause-first_begun : goal.invariant_of-self-clause-first_begun
invariant_of-self-clause-first_begun c =
    let planet = c.args.self.now in
    begun_numbered planet.yard.items _ c.index-batch.result.now _ planet.first_begun (omega arith) c.index-batch.ensures refl

pub returns-clause-yard : goal.returns-clause-yard
returns-clause-yard c =
    numbers (batch_item_of c.args.self.now.at) c.args.number c.args.self.now.yard.items _ c.index-batch.result.now _ (omega arith) c.index-batch.ensures refl
