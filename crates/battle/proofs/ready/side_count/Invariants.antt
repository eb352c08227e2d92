-- The units of the parts so far, and those of the parts that are left, are all units.
use Rattle.std.proofs.Common.{◌≡◌, ◌+◌, ◌≤◌, length, drop}
use Rattle.battle.specs.Sides.{fighters}
use Rattle.battle.specs.declared.limits.TheConstants.{MOST_UNITS}
use Rattle.battle.proofs.UnitCounts.{rest_of}
use Rattle.battle.proofs.ready.side_count.Given as goal

abbrev pub invariant-parts : goal.invariant-parts
invariant-parts l =
    record {
      same : l.units + length (rest_of l.part-index (drop l.part-index l.parts)) ≡ length (fighters l.parts);
      most : l.units ≤ MOST_UNITS;
    }
