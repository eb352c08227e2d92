use Rattle.std.proofs.Common.{◌≡◌, ◌++◌, map, take}
use Rattle.std.specs.List.{flat_map}
use Rattle.base_bytes.specs.Spelling.{fleet_bytes}
use Rattle.fleet_rec.specs.Fleet.{fleet_seen}
use Rattle.base_bytes.proofs.writing.put_fleets.Given as goal

abbrev pub invariant-fleets : goal.invariant-fleets
invariant-fleets l = l.out ≡ l.fn.out ++ flat_map fleet_bytes (map fleet_seen (take l.fleet-index l.fleets))
