use Rattle.std.proofs.Common.{◌≡◌, ◌-◌, ◌≤◌}
use Rattle.planet_cell.specs.Planet.{batches_of, buildings_of}
use Rattle.planet_cell.specs.Yard.{IsAhead, ticked_yard, yard_of}
use Rattle.tick_model.specs.Views.{units_left}
use Rattle.planet_cell.proofs.planet.Planet.run_yard.Given as goal

abbrev pub invariant-batches : goal.invariant-batches
invariant-batches l =
    record {
      works : ticked_yard l.speed l.now (l.until - l.now) (yard_of l.self) ≡ ticked_yard l.speed l.from (l.until - l.from) (yard_of l.initial.self);
      ahead : IsAhead l.now (batches_of l.self);
      order : l.now ≤ l.until;
      buildings : buildings_of l.self ≡ buildings_of l.initial.self;
      at : l.self.at ≡ l.initial.self.at;
    }

abbrev pub decreases-batches : goal.decreases-batches
decreases-batches l = units_left (batches_of l.self)
