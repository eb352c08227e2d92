use Rattle.std.proofs.Common.{map, take}
use Rattle.base_bytes.specs.Tallies.{AreCounted}
use Rattle.fleet_rec.specs.Fleet.{fleet_seen}
use Rattle.base_bytes.proofs.slot_rules.count_fleets.Given as goal

abbrev pub invariant-fleets : goal.invariant-fleets
invariant-fleets l = AreCounted l.counts (map fleet_seen (take l.fleet-index l.fleets))
