use Rattle.std.proofs.Common.{◌≡◌, ◌≤◌, ◌++◌, drop, take}
use Rattle.std.specs.Prelude.{IsTrue, sum}
use Rattle.tick_model.specs.Flights.{left_by}
use Rattle.tick_model.specs.Sending.{has_ships}
use Rattle.planet_cell.proofs.departing.part.Given as goal

abbrev pub invariant-ships : goal.invariant-ships
invariant-ships l =
    record {
      value : take l.place l.units ++ left_by (drop l.place l.units) (drop l.place l.ships) ≡ left_by l.initial.units l.ships;
      enough : IsTrue (has_ships (drop l.place l.units) (drop l.place l.ships));
      total : sum l.units ≤ sum l.initial.units;
    }
