-- The units so far, and those of the parts that are left, are the units of all parts.
use Rattle.std.proofs.Common.{◌≡◌, ◌++◌, drop}
use Rattle.battle.specs.Arrays.{IsMustered, all_seen}
use Rattle.battle.proofs.Musters.{from_part}
use Rattle.battle.proofs.muster.muster.Given as goal

abbrev pub invariant-parts : goal.invariant-parts
invariant-parts l =
    record {
      same : all_seen l.table.items 0 l.units.items ++ from_part l.place (drop l.place l.parts) ≡ from_part 0 l.parts;
      mustered : IsMustered l.table.items l.units.items;
    }
