-- The lowest so far and those that are still to come lead to the lowest of all.
use Rattle.std.proofs.Common.{◌≡◌, drop}
use Rattle.std.specs.Prelude.{None}
use Rattle.catalog.specs.declared.ships.TheConstants.{SHIPS}
use Rattle.flight.specs.Fleets.{present}
use Rattle.flight.specs.Speeds.{slowest_of}
use Rattle.flight.proofs.speeds.slowest.Given as goal

abbrev pub invariant-ships : goal.invariant-ships
invariant-ships l = slowest_of l.slowest l.t.n (present (drop l.i SHIPS) (drop l.i l.ships.n)) ≡ slowest_of None l.t.n (present SHIPS l.ships.n)
