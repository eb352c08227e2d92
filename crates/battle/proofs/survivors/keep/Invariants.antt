-- The parts have the units that were looked at so far.
use Rattle.std.proofs.Common.{◌≡◌, map, take}
use Rattle.battle.specs.Arrays.{fighter_of}
use Rattle.battle.specs.Outcomes.{survivors}
use Rattle.battle.proofs.survivors.keep.Given as goal

abbrev pub invariant-living : goal.invariant-living
invariant-living l = l.side ≡ survivors (map (fighter_of l.table) (take l.unit-index l.living)) l.fn.side
