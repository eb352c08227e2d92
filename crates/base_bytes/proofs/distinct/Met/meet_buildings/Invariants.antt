use Rattle.std.proofs.Common.{take, true}
use Rattle.planet_cell.specs.Planet.{buildings_of}
use Rattle.base_bytes.specs.Counting.{Meets}
use Rattle.base_bytes.proofs.distinct.Met.meet_buildings.Given as goal

abbrev pub invariant-items : goal.invariant-items
invariant-items l = Meets (take l.item-index (buildings_of l.planet)) l.fn.self l.self true
