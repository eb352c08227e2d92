use Rattle.std.proofs.Common.{take}
use Rattle.base_bytes.specs.Counting.{HasPlaces}
use Rattle.base_bytes.proofs.places.places_by_owner.Given as goal

abbrev pub invariant-planets : goal.invariant-planets
invariant-planets l = HasPlaces l.owners (take l.planet-index l.planets)
