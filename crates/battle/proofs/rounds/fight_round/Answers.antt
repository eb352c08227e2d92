use Rattle.battle.specs.Arrays.{shown}
use Rattle.battle.proofs.RoundByRound.{round_steps}
use Rattle.battle.proofs.rounds.fight_round.Goals as goal

pub returns-clause-round : goal.returns-clause-round
returns-clause-round c =
    round_steps (shown c.args.round c.args.attackers.now) (shown c.args.round c.args.planet.now)
    (shown c.args.round c.fight_half-2.new.targets) (shown c.args.round c.fight_half.new.targets) _ _
    c.args.draws.now c.fight_half.new.draws c.fight_half-2.new.draws c.args.round
    c.fight_half.ensures.targets c.fight_half.ensures.words c.fight_half-2.ensures.targets c.fight_half-2.ensures.words
    (c.keep_standing.ensures.standing c.args.round c.fight_half-2.ensures.ready)
    (c.keep_standing-2.ensures.standing c.args.round c.fight_half.ensures.ready)

pub returns-clause-attackers : goal.returns-clause-attackers
returns-clause-attackers c = c.keep_standing.ensures.ready c.args.round c.fight_half-2.ensures.ready

pub returns-clause-planet : goal.returns-clause-planet
returns-clause-planet c = c.keep_standing-2.ensures.ready c.args.round c.fight_half.ensures.ready
