use Rattle.std.proofs.Common.{◌≡◌, ◌++◌, drop, map}
use Rattle.fleet_rec.specs.Fleet.{cargo_seen, fleet_seen}
use Rattle.tick_model.specs.Battles.{laden}
use Rattle.raids.proofs.carrying.laden.Given as goal

abbrev pub invariant-fleets : goal.invariant-fleets
invariant-fleets l =
    l.all ++ laden (cargo_seen l.left) (map fleet_seen (drop l.fleet-index l.fleets)) ≡ laden (cargo_seen l.initial.left) (map fleet_seen l.fleets)
