-- What the rounds that are left come to, from here, is what all rounds come to.
use Rattle.std.proofs.Common.{◌≡◌, ◌-◌}
use Rattle.battle.specs.Arrays.{IsReady, shown}
use Rattle.battle.specs.Course.{after_rounds}
use Rattle.battle.proofs.RoundByRound.{field_of}
use Rattle.battle.proofs.rounds.fight_rounds.Given as goal

abbrev pub invariant-rounds : goal.invariant-rounds
invariant-rounds l =
    record {
      same : after_rounds (6 - l.round) (field_of (shown l.round l.attackers) (shown l.round l.planet) l.draws l.round)
          ≡ after_rounds 6 (field_of (shown 0 l.initial.attackers) (shown 0 l.initial.planet) l.initial.draws 0);
      attackers : IsReady l.round l.attackers;
      planet : IsReady l.round l.planet;
    }
