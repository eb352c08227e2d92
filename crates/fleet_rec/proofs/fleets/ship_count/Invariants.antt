use Rattle.std.proofs.Common.{◌≡◌, ◌+◌, drop, map}
use Rattle.std.specs.Prelude.{sum_by}
use Rattle.fleet_rec.specs.Fleet.{fleet_seen}
use Rattle.tick_model.specs.Views.{ships_of}
use Rattle.fleet_rec.proofs.fleets.ship_count.Given as goal

abbrev pub invariant-fleets : goal.invariant-fleets
invariant-fleets l =
    l.ships + sum_by (ships_of l.player) (map fleet_seen (drop l.fleet-index l.fleets)) ≡ sum_by (ships_of l.player) (map fleet_seen l.fleets)
