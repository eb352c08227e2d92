-- What is summed and what is still to be summed come to the whole.
use Rattle.std.proofs.Common.{◌≡◌, ◌≤◌, ◌+◌, ◌*◌, drop}
use Rattle.catalog.specs.Flight.{cargo_of}
use Rattle.catalog.specs.declared.ships.TheConstants.{SHIPS}
use Rattle.flight.specs.Fleets.{total}
use Rattle.flight.proofs.freight.capacity.Given as goal

abbrev pub invariant-ships : goal.invariant-ships
invariant-ships l = record {
  to : l.sum ≤ l.i * 100000000000;
  rest : l.sum + total cargo_of (drop l.i SHIPS) (drop l.i l.ships.n) ≡ total cargo_of SHIPS l.ships.n;
}
