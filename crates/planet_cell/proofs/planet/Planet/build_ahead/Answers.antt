use Rattle.std.proofs.Common.{arith, refl}
use Rattle.planet_cell.proofs.Totals.{begun_ahead, total_ahead}
use Rattle.planet_cell.proofs.Yards.{builds_ahead, first_left, first_more}
use Rattle.planet_cell.specs.Planet.{fields_of}
use Rattle.planet_cell.proofs.planet.Planet.build_ahead.Goals as goal

pub invariant_of-self-clause-within_units : goal.invariant_of-self-clause-within_units
invariant_of-self-clause-within_units c =
    let planet = c.args.self.now in
    let batches = planet.yard.items in
    total_ahead planet.units batches c.place_of_unit.result c.args.count _ c.index-batch.result.now _ planet.within_units (omega arith) (first_more c.args.count planet.at batches c.requires)
    c.index-batch.ensures (omega (arith, first_left c.args.count planet.at batches c.index-batch.result.now c.requires c.index-batch.ensures)) refl

pub invariant_of-self-clause-first_begun : goal.invariant_of-self-clause-first_begun
invariant_of-self-clause-first_begun c =
    let planet = c.args.self.now in
    begun_ahead planet.yard.items c.index-batch.result.now _ planet.first_begun (first_more c.args.count planet.at planet.yard.items c.requires) c.index-batch.ensures refl

pub returns-clause-works : goal.returns-clause-works
returns-clause-works c =
    let planet = c.args.self.now in
    builds_ahead (fields_of planet) planet.at planet.yard.items c.index-batch.result.now _ c.place_of_unit.result _ c.args.count c.from.result c.requires c.index-batch.ensures c.place_of_unit.ensures.value refl c.from.ensures refl
