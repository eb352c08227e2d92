use Rattle.std.proofs.Common.{◌≡◌, ℕ, ◌∙◌, ap, sym, arith}
use Rattle.battle.specs.Arrays.{shown}
use Rattle.battle.proofs.RoundByRound.{field_of, rounds_over, rounds_none, rounds_on}
use Rattle.battle.proofs.Shown.{both_shown}
use Rattle.battle.proofs.rounds.fight_rounds.Goals as goal

pub returns-then-not-both_stand-clause-course : goal.returns-then-not-both_stand-clause-course
returns-then-not-both_stand-clause-course c =
    let field = field_of (shown c.rounds.round c.rounds.attackers) (shown c.rounds.round c.rounds.planet) c.rounds.draws c.rounds.round in
    rounds_over c.rounds.round field (omega arith) (both_shown c.rounds.round c.rounds.attackers c.rounds.planet ∙ sym c.both_stand.ensures ∙ c.if-not-both_stand.true) ∙ c.rounds.invariant.same

pub rounds-preserved : goal.rounds-preserved
rounds-preserved c =
    let field = field_of (shown c.rounds.round c.rounds.attackers) (shown c.rounds.round c.rounds.planet) c.rounds.draws c.rounds.round in
    record {
      same = rounds_on c.rounds.round field _ (omega arith) (both_shown c.rounds.round c.rounds.attackers c.rounds.planet ∙ sym c.both_stand.ensures ∙ c.if-not-both_stand.false) c.fight_round.ensures.round ∙ c.rounds.invariant.same;
      attackers = c.fight_round.ensures.attackers;
      planet = c.fight_round.ensures.planet;
    }

pub returns-clause-course : goal.returns-clause-course
returns-clause-course c =
    let last : 6 ≡ c.rounds.round = omega arith in
    let field = λ (round : ℕ). field_of (shown round c.rounds.attackers) (shown round c.rounds.planet) c.rounds.draws round in
    ap field last ∙ rounds_none c.rounds.round (field c.rounds.round) (omega arith) ∙ c.rounds.invariant.same
