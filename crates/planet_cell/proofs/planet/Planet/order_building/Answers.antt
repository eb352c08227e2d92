use Rattle.std.proofs.Common.{◌+◌, ◌<◌, ℕ, subst}
use Rattle.catalog.specs.Levels.{level_cap_of}
use Rattle.planet_cell.proofs.Counts.{queued_items}
use Rattle.planet_cell.proofs.Queues.{caps_pushed}
use Rattle.planet_cell.specs.Planet.{fields_of}
use Rattle.tick_model.specs.Production.{level_of}
use Rattle.planet_cell.proofs.planet.Planet.order_building.Goals as goal

pub invariant_of-self-clause-within_levels : goal.invariant_of-self-clause-within_levels
invariant_of-self-clause-within_levels c =
    let kind = c.args.building.kind in
    let planet = fields_of c.args.self.now in
    let counted = queued_items kind c.args.self.now.at c.args.self.now.buildings.items in
    caps_pushed planet c.args.self.now.buildings.items c.push.new.self.items _ _ c.push.ensures.items c.args.self.now.within_levels
    (subst (λ (n : ℕ). level_of planet kind + n < level_cap_of kind) counted c.requires.order.level)
