use Rattle.std.proofs.Common.{arith, refl}
use Rattle.planet_cell.proofs.Queues.{caps_numbered}
use Rattle.planet_cell.proofs.Starts.{numbers}
use Rattle.planet_cell.specs.Planet.{item_of}
use Rattle.planet_cell.proofs.planet.Planet.number_last_building.Goals as goal

pub invariant_of-self-clause-within_levels : goal.invariant_of-self-clause-within_levels
invariant_of-self-clause-within_levels c =
    caps_numbered c.args.self.now.levels c.args.self.now.buildings.items _ c.index-item.result.now _ (omega arith) c.index-item.ensures refl c.args.self.now.within_levels

pub returns-clause-buildings : goal.returns-clause-buildings
returns-clause-buildings c =
    numbers (item_of c.args.self.now.at) c.args.number c.args.self.now.buildings.items _ c.index-item.result.now _ (omega arith) c.index-item.ensures refl
