-- What the turns that are left come to, from here, is what all the turns come to.
use Rattle.std.proofs.Common.{◌≡◌, drop, length}
use Rattle.battle.specs.Arrays.{AreSound, all_seen}
use Rattle.battle.specs.Course.{after_volley}
use Rattle.battle.proofs.firing.volley.Given as goal

abbrev pub invariant-shooters : goal.invariant-shooters
invariant-shooters l =
    record {
      same : after_volley (drop l.shooter-index (all_seen l.strengths l.round l.shooters)) (all_seen l.table l.round l.targets) l.draws
          ≡ after_volley (all_seen l.strengths l.round l.shooters) (all_seen l.table l.round l.initial.targets) l.initial.draws;
      sound : AreSound (length l.table) l.round l.targets;
    }
