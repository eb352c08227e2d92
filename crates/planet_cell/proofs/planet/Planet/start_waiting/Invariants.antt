use Rattle.std.proofs.Common.{◌≡◌, vec_len}
use Rattle.planet_cell.specs.Planet.{batches_of, buildings_of, fields_of}
use Rattle.tick_model.specs.Buildings.{starts_first}
use Rattle.planet_cell.proofs.planet.Planet.start_waiting.Given as goal

abbrev pub invariant-waiting : goal.invariant-waiting
invariant-waiting l =
    record {
      works : starts_first l.speed l.second (fields_of l.self) (buildings_of l.self)
          ≡ starts_first l.speed l.second (fields_of l.initial.self) (buildings_of l.initial.self);
      yard : batches_of l.self ≡ batches_of l.initial.self;
      at : l.self.at ≡ l.initial.self.at;
    }

abbrev pub decreases-waiting : goal.decreases-waiting
decreases-waiting l = vec_len l.self.buildings
