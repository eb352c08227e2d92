use Rattle.std.proofs.Common.{◌≡◌, ◌++◌, drop, map}
use Rattle.base_ids.specs.declared.coord.Coord.{Coord}
use Rattle.planet_cell.specs.Planet.{batch_item_of}
use Rattle.tick_model.specs.Lines.{waiting_lines}
use Rattle.tick_model.specs.Universe.{Yard}
use Rattle.orders.proofs.queues.push_waiting_batches.Given as goal

abbrev pub invariant-batches : goal.invariant-batches
invariant-batches l =
    (at : Coord) → l.body ++ waiting_lines Yard (map (batch_item_of at) (drop l.batch-index l.batches)) ≡ l.initial.body ++ waiting_lines Yard (map (batch_item_of at) l.batches)
