-- The units of the kinds so far.
use Rattle.std.proofs.Common.{◌≡◌, ◌*◌, ◌^◌, ◌≤◌, take}
use Rattle.std.specs.List.{sum}
use Rattle.battle.proofs.ready.unit_count.Given as goal

abbrev pub invariant-kinds : goal.invariant-kinds
invariant-kinds l =
    record {
      so_far : l.units ≡ sum (take l.count-index l.part.n);
      most : l.units ≤ l.count-index * 2 ^ 32;
    }
