use Rattle.std.proofs.Common.{take, map, []}
use Rattle.base_bytes.specs.Counting.{HasUnits}
use Rattle.fleet_rec.specs.Fleet.{fleet_seen}
use Rattle.base_bytes.proofs.tallies.units_by_owner.Given as goal

abbrev pub invariant-planets : goal.invariant-planets
invariant-planets l = HasUnits l.counts (take l.planet-index l.planets) []

abbrev pub invariant-fleets : goal.invariant-fleets
invariant-fleets l = HasUnits l.counts l.planets (map fleet_seen (take l.fleet-index l.fleets))
