use Rattle.std.proofs.Common.{ap}
use Rattle.planet_cell.proofs.Queues.{caps_first}
use Rattle.planet_cell.specs.Planet.{fields_of}
use Rattle.tick_model.specs.Universe.{Item}
use Rattle.planet_cell.proofs.planet.Planet.start_order.Goals as goal

pub invariant_of-self-2-clause-within_levels : goal.invariant_of-self-2-clause-within_levels
invariant_of-self-2-clause-within_levels c =
    caps_first (fields_of c.args.self.now) c.args.self.now.buildings.items c.push.new.self.items c.args.item c.started-running.result c.requires.empty c.in_ok-push.ensures.items
    c.args.self.now.within_levels (ap (λ (x : Item). x.kind) c.started-running.ensures) c.requires.level
