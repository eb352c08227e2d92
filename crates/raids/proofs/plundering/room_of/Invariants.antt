use Rattle.std.proofs.Common.{◌≡◌, ◌≤◌, ◌+◌, drop, map, min}
use Rattle.std.specs.Prelude.{sum_by}
use Rattle.fleet_rec.specs.Fleet.{fleet_seen}
use Rattle.raids.specs.declared.plundering.TheConstants.{PLENTY}
use Rattle.tick_model.specs.Flights.{free_room}
use Rattle.raids.proofs.plundering.room_of.Given as goal

abbrev pub invariant-fleets : goal.invariant-fleets
invariant-fleets l =
    record {
      within : l.room ≤ PLENTY;
      value : min (l.room + sum_by free_room (map fleet_seen (drop l.fleet-index l.fleets))) PLENTY ≡ min (sum_by free_room (map fleet_seen l.fleets)) PLENTY;
    }
