use Rattle.std.proofs.Common.{◌≡◌, drop, map}
use Rattle.std.specs.List.{find}
use Rattle.fleet_rec.specs.Fleet.{fleet_seen}
use Rattle.fleet_rec.specs.Fleets.{bears}
use Rattle.fleet_rec.proofs.raiding.numbered.Given as goal

abbrev pub invariant-fleets : goal.invariant-fleets
invariant-fleets l = find (bears l.number) (map fleet_seen l.fleets) ≡ find (bears l.number) (map fleet_seen (drop l.fleet-index l.fleets))
