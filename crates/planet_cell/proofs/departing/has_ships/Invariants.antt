use Rattle.std.proofs.Common.{◌≡◌, drop}
use Rattle.tick_model.specs.Sending.{has_ships}
use Rattle.planet_cell.proofs.departing.has_ships.Given as goal

abbrev pub invariant-ships : goal.invariant-ships
invariant-ships l = has_ships l.units l.ships ≡ has_ships (drop l.place l.units) (drop l.place l.ships)
