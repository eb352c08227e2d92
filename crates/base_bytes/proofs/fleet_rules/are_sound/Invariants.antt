use Rattle.std.proofs.Common.{All, map, take}
use Rattle.base_bytes.specs.Sound.{IsSoundFleet}
use Rattle.fleet_rec.specs.Fleet.{fleet_seen}
use Rattle.base_bytes.proofs.fleet_rules.are_sound.Given as goal

abbrev pub invariant-fleets : goal.invariant-fleets
invariant-fleets l = All (IsSoundFleet l.base) (map fleet_seen (take l.fleet-index l.fleets))
