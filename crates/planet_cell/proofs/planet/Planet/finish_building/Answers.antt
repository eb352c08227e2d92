use Rattle.std.proofs.Common.{arith, subst, sym, refl}
use Rattle.planet_cell.proofs.Queues.{caps_raised}
use Rattle.planet_cell.proofs.Starts.{finishes}
use Rattle.planet_cell.specs.Planet.{fields_of}
use Rattle.planet_cell.specs.Bounds.{AreWithinCaps}
use Rattle.planet_cell.proofs.planet.Planet.finish_building.Goals as goal

pub invariant_of-self-clause-within_levels : goal.invariant_of-self-clause-within_levels
invariant_of-self-clause-within_levels c =
    subst (AreWithinCaps _) (sym c.remove-done.ensures.items)
    (caps_raised c.args.self.now.levels c.args.self.now.buildings.items c.remove-done.result c.place_of-place.result _ c.args.self.now.within_levels c.remove-done.ensures.value (omega arith) c.place_of-place.ensures.value refl)

pub returns-clause-built : goal.returns-clause-built
returns-clause-built c =
    finishes c.args.speed (fields_of c.args.self.now) _ c.args.self.now.at c.args.self.now.buildings.items c.remove-done.new.self.items _ c.remove-done.result c.place_of-place.result
    c.remove-done.ensures.value (omega arith) c.remove-done.ensures.items c.place_of-place.ensures.value
    c.start_waiting.ensures.works
