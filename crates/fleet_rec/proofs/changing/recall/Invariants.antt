use Rattle.std.proofs.Common.{◌≡◌, drop, map, take}
use Rattle.std.specs.List.{filter_map}
use Rattle.fleet_rec.specs.Fleet.{fleet_seen}
use Rattle.fleet_rec.specs.Fleets.{became_at, recalls_at}
use Rattle.fleet_rec.proofs.changing.recall.Given as goal

abbrev pub invariant-fleets : goal.invariant-fleets
invariant-fleets l =
    record {
      changed : map fleet_seen (take l.fleet-index l.fleets) ≡ filter_map (became_at l.number (recalls_at l.moment)) (map fleet_seen (take l.fleet-index l.initial.fleets));
      left : drop l.fleet-index l.fleets ≡ drop l.fleet-index l.initial.fleets;
    }
