-- The units so far, and those of the kinds that are left, are the units of all kinds.
use Rattle.std.proofs.Common.{◌≡◌, ◌++◌, drop}
use Rattle.catalog.specs.declared.classes.TheConstants.{UNIT_KINDS}
use Rattle.battle.specs.Arrays.{IsMustered, all_seen}
use Rattle.battle.proofs.Musters.{of_kinds}
use Rattle.battle.proofs.muster.add_part.Given as goal

abbrev pub invariant-kinds : goal.invariant-kinds
invariant-kinds l =
    record {
      same : all_seen l.table.items 0 l.units.items ++ of_kinds l.place l.part.techs.n (drop l.i UNIT_KINDS) (drop l.i l.part.n)
          ≡ all_seen l.initial.table.items 0 l.initial.units.items ++ of_kinds l.place l.part.techs.n UNIT_KINDS l.part.n;
      mustered : IsMustered l.table.items l.units.items;
    }
