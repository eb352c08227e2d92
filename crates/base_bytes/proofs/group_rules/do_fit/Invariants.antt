use Rattle.std.proofs.Common.{map, take}
use Rattle.base_bytes.specs.Tallies.{AreNoted}
use Rattle.fleet_rec.specs.Fleet.{fleet_seen}
use Rattle.base_bytes.proofs.group_rules.do_fit.Given as goal

abbrev pub invariant-fleets : goal.invariant-fleets
invariant-fleets l = AreNoted l.groups (map fleet_seen (take l.fleet-index l.fleets))
