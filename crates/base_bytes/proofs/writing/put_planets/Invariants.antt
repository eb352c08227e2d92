use Rattle.std.proofs.Common.{◌≡◌, ◌++◌, take}
use Rattle.std.specs.List.{flat_map}
use Rattle.base_bytes.specs.Spelling.{planet_bytes}
use Rattle.base_bytes.proofs.writing.put_planets.Given as goal

abbrev pub invariant-planets : goal.invariant-planets
invariant-planets l = l.out ≡ l.fn.out ++ flat_map planet_bytes (take l.planet-index l.planets)
