-- What the shots that are left come to, from here, is what all the shots come to.
use Rattle.std.proofs.Common.{◌≡◌, ◌-◌, length}
use Rattle.battle.specs.Arrays.{AreSound, all_seen}
use Rattle.battle.specs.Course.{after_salvo}
use Rattle.battle.proofs.firing.salvo.Given as goal

abbrev pub invariant-shots : goal.invariant-shots
invariant-shots l =
    record {
      same : after_salvo (4097 - l.count) l.count l.shooter (all_seen l.table l.round l.targets) l.draws
          ≡ after_salvo 4096 1 l.shooter (all_seen l.table l.round l.initial.targets) l.initial.draws;
      sound : AreSound (length l.table) l.round l.targets;
    }
