use Rattle.std.proofs.Common.{take, true}
use Rattle.std.specs.List.{flat_map}
use Rattle.base_bytes.specs.Base.{planet_items}
use Rattle.base_bytes.specs.Counting.{Meets}
use Rattle.base_bytes.proofs.distinct.Met.meet_planets.Given as goal

abbrev pub invariant-planets : goal.invariant-planets
invariant-planets l = Meets (flat_map planet_items (take l.planet-index l.planets)) l.fn.self l.self true
