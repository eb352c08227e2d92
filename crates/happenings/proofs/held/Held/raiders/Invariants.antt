use Rattle.std.proofs.Common.{map, take}
use Rattle.fleet_rec.specs.Fleet.{fleet_seen}
use Rattle.happenings.specs.Fighting.{AreRaiders}
use Rattle.happenings.proofs.held.Held.raiders.Given as goal

abbrev pub invariant-fleets : goal.invariant-fleets
invariant-fleets l = AreRaiders l.self (map fleet_seen (take l.fleet-index l.fleet-items)) l.raiders.items
