use Rattle.std.proofs.Common.{◌≡◌, Some, drop, map, take}
use Rattle.std.specs.List.{filter_map}
use Rattle.fleet_rec.specs.Fleet.{fleet_seen}
use Rattle.fleet_rec.specs.Fleets.{turned_if}
use Rattle.tick_model.specs.Universe.{Fleet}
use Rattle.fleet_rec.proofs.raiding.turn_all.Given as goal

abbrev pub invariant-fleets : goal.invariant-fleets
invariant-fleets l =
    record {
      changed : map fleet_seen (take l.fleet-index l.fleets) ≡ filter_map (λ (fleet : Fleet). Some (turned_if l.fought l.left fleet)) (map fleet_seen (take l.fleet-index l.initial.fleets));
      left : drop l.fleet-index l.fleets ≡ drop l.fleet-index l.initial.fleets;
    }
