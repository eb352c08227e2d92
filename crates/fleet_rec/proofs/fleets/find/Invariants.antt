use Rattle.std.proofs.Common.{◌≡◌, drop, map}
use Rattle.fleet_rec.specs.Fleet.{fleet_seen}
use Rattle.tick_model.specs.Sending.{fleet_of}
use Rattle.fleet_rec.proofs.fleets.find.Given as goal

abbrev pub invariant-fleets : goal.invariant-fleets
invariant-fleets l = fleet_of l.player l.number (map fleet_seen l.fleets) ≡ fleet_of l.player l.number (map fleet_seen (drop l.fleet-index l.fleets))
