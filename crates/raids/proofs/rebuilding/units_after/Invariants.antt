use Rattle.std.proofs.Common.{◌≡◌, ◌++◌, drop, take, length}
use Rattle.catalog.specs.declared.classes.TheConstants.{UNIT_KINDS}
use Rattle.tick_model.specs.Battles.{units_after}
use Rattle.raids.proofs.rebuilding.units_after.Given as goal

abbrev pub invariant-kinds : goal.invariant-kinds
invariant-kinds l =
    record {
      all : length l.units ≡ 22;
      value : take l.place l.units ++ units_after (drop l.place UNIT_KINDS) (drop l.place l.before) (drop l.place l.left) ≡ units_after UNIT_KINDS l.before l.left;
    }
