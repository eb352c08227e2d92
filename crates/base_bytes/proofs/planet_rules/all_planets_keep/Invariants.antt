use Rattle.std.specs.List.{AllWithin}
use Rattle.base_bytes.specs.Kept.{PlanetKeeps}
use Rattle.base_bytes.proofs.planet_rules.all_planets_keep.Given as goal

abbrev pub invariant-planets : goal.invariant-planets
invariant-planets l = AllWithin (PlanetKeeps l.moment l.number) l.planets 0 l.planet-index
