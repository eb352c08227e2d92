use Rattle.std.proofs.Common.{◌≡◌, ◌+◌, ◌++◌, drop, take}
use Rattle.std.specs.Prelude.{sum}
use Rattle.tick_model.specs.Flights.{joined_by}
use Rattle.planet_cell.proofs.mooring.join.Given as goal

abbrev pub invariant-ships : goal.invariant-ships
invariant-ships l =
    record {
      value : take l.place l.units ++ joined_by (drop l.place l.units) (drop l.place l.ships) ≡ joined_by l.initial.units l.ships;
      total : sum l.units + sum (drop l.place l.ships) ≡ sum l.initial.units + sum l.ships;
    }
