use Rattle.std.proofs.Common.{◌≡◌, Some, drop, map, take}
use Rattle.std.specs.List.{filter_map}
use Rattle.fleet_rec.specs.Fleet.{cargo_seen, fleet_seen}
use Rattle.fleet_rec.specs.Fleets.{became_at}
use Rattle.tick_model.specs.Flights.{turns}
use Rattle.fleet_rec.proofs.changing.turn.Given as goal

abbrev pub invariant-fleets : goal.invariant-fleets
invariant-fleets l =
    record {
      changed : map fleet_seen (take l.fleet-index l.fleets) ≡ filter_map (became_at l.number (turns (Some (cargo_seen l.cargo)))) (map fleet_seen (take l.fleet-index l.initial.fleets));
      left : drop l.fleet-index l.fleets ≡ drop l.fleet-index l.initial.fleets;
    }
