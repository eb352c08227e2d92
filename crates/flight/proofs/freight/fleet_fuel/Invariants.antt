-- What is summed and what is still to be summed come to the whole.
use Rattle.std.proofs.Common.{◌≡◌, ◌≤◌, ◌+◌, ◌*◌, drop}
use Rattle.catalog.specs.declared.ships.TheConstants.{SHIPS}
use Rattle.flight.specs.Fleets.{total}
use Rattle.flight.specs.Freight.{ship_fuel}
use Rattle.flight.proofs.freight.fleet_fuel.Given as goal

abbrev pub invariant-ships : goal.invariant-ships
invariant-ships l = record {
  to : l.sum ≤ l.i * 100000000;
  rest : l.sum + total (ship_fuel l.impulse) (drop l.i SHIPS) (drop l.i l.ships.n) ≡ total (ship_fuel l.impulse) SHIPS l.ships.n;
}
