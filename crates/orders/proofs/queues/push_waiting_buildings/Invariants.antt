use Rattle.std.proofs.Common.{◌≡◌, ◌++◌, drop, map}
use Rattle.base_ids.specs.declared.coord.Coord.{Coord}
use Rattle.planet_cell.specs.Planet.{item_of}
use Rattle.tick_model.specs.Lines.{waiting_lines}
use Rattle.tick_model.specs.Universe.{Buildings}
use Rattle.orders.proofs.queues.push_waiting_buildings.Given as goal

abbrev pub invariant-items : goal.invariant-items
invariant-items l =
    (at : Coord) → l.body ++ waiting_lines Buildings (map (item_of at) (drop l.item-index l.items)) ≡ l.initial.body ++ waiting_lines Buildings (map (item_of at) l.items)
