use Rattle.std.proofs.Common.{ap, arith, ◌∙◌, sym}
use Rattle.battle.specs.Arrays.{all_seen}
use Rattle.battle.specs.Course.{Volley}
use Rattle.battle.proofs.Volleys.{salvo_end, salvo_none, salvo_on}
use Rattle.battle.proofs.firing.salvo.Goals as goal

pub returns-then-not-fire-clause-targets : goal.returns-then-not-fire-clause-targets
returns-then-not-fire-clause-targets c =
    let e = salvo_end c.shots.count c.args.shooter.now (all_seen c.args.table.now c.args.round c.shots.targets) c.shots.draws (all_seen c.args.table.now c.args.round c.fire.new.targets) c.fire.new.draws c.fire.result
    (omega arith) c.if-not-fire.true c.fire.ensures.again c.fire.ensures.targets c.fire.ensures.words in
    ap (λ (v : Volley). v.targets) (e ∙ c.shots.invariant.same)

pub returns-then-not-fire-clause-words : goal.returns-then-not-fire-clause-words
returns-then-not-fire-clause-words c =
    let e = salvo_end c.shots.count c.args.shooter.now (all_seen c.args.table.now c.args.round c.shots.targets) c.shots.draws (all_seen c.args.table.now c.args.round c.fire.new.targets) c.fire.new.draws c.fire.result
    (omega arith) c.if-not-fire.true c.fire.ensures.again c.fire.ensures.targets c.fire.ensures.words in
    ap (λ (v : Volley). v.stream) (e ∙ c.shots.invariant.same)

pub shots-preserved : goal.shots-preserved
shots-preserved c =
    let e = salvo_on c.shots.count c.args.shooter.now (all_seen c.args.table.now c.args.round c.shots.targets) c.shots.draws (all_seen c.args.table.now c.args.round c.fire.new.targets) c.fire.new.draws c.fire.result
    (omega arith) c.if-not-fire.false c.fire.ensures.again c.fire.ensures.targets c.fire.ensures.words in
    record { same = e ∙ c.shots.invariant.same; sound = c.fire.ensures.sound }

pub returns-clause-targets : goal.returns-clause-targets
returns-clause-targets c =
    let e = salvo_none c.shots.count c.args.shooter.now (all_seen c.args.table.now c.args.round c.shots.targets) c.shots.draws (omega arith) in
    ap (λ (v : Volley). v.targets) (sym e ∙ c.shots.invariant.same)

pub returns-clause-words : goal.returns-clause-words
returns-clause-words c =
    let e = salvo_none c.shots.count c.args.shooter.now (all_seen c.args.table.now c.args.round c.shots.targets) c.shots.draws (omega arith) in
    ap (λ (v : Volley). v.stream) (sym e ∙ c.shots.invariant.same)
