use Rattle.std.proofs.Common.{◌≡◌, drop, map}
use Rattle.fleet_rec.specs.Fleet.{fleet_seen}
use Rattle.fleet_rec.specs.Fleets.{first_of}
use Rattle.tick_model.specs.Raids.{raiders}
use Rattle.fleet_rec.proofs.raiding.first_raider.Given as goal

abbrev pub invariant-fleets : goal.invariant-fleets
invariant-fleets l = first_of (raiders l.at l.group (map fleet_seen l.fleets)) ≡ first_of (raiders l.at l.group (map fleet_seen (drop l.fleet-index l.fleets)))
