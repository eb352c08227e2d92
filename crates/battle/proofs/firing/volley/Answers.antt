use Rattle.std.proofs.Common.{◌≡◌, length, get_or, ap, sym, ◌∙◌, refl, arith}
use Rattle.battle.specs.declared.combatant.Combatant.{Combatant}
use Rattle.battle.specs.declared.fighter.Fighter.{Fighter}
use Rattle.battle.specs.Arrays.{all_seen}
use Rattle.battle.specs.Course.{Volley, after_turn, unhurt}
use Rattle.battle.specs.Shots.{nobody}
use Rattle.battle.proofs.Shown.{length_seen, seen_at, sound_at}
use Rattle.battle.proofs.Volleys.{volley_none, volley_on}
use Rattle.battle.proofs.firing.volley.Goals as goal

pub shooters-preserved : goal.shooters-preserved
shooters-preserved c =
    let many = length_seen c.args.strengths.now c.args.round c.args.shooters.now in
    let f : (get_or (all_seen c.args.strengths.now c.args.round c.args.shooters.now) c.shooters.shooter-index (unhurt nobody)).fighter ≡ _ =
    ap (λ (x : Combatant). x.fighter)
    (seen_at c.args.strengths.now c.args.round c.args.shooters.now c.shooters.shooter-index _ _ _ (unhurt nobody) c.shooters-test.true
    (sound_at (length c.args.strengths.now) c.args.round c.args.shooters.now c.shooters.shooter-index _ c.shooters-test.true c.requires.shooters).has_strength refl) in
    let e = volley_on c.shooters.shooter-index (all_seen c.args.strengths.now c.args.round c.args.shooters.now) (all_seen c.args.table.now c.args.round c.shooters.targets) c.shooters.draws (unhurt nobody)
    (all_seen c.args.table.now c.args.round c.take_turn.new.targets) c.take_turn.new.draws
    (omega (arith, many, c.shooters-test.true))
    (c.take_turn.ensures.targets ∙ ap (λ (g : Fighter). (after_turn g (all_seen c.args.table.now c.args.round c.shooters.targets) c.shooters.draws).targets) (sym f))
    (c.take_turn.ensures.words ∙ ap (λ (g : Fighter). (after_turn g (all_seen c.args.table.now c.args.round c.shooters.targets) c.shooters.draws).stream) (sym f)) in
    record { same = e ∙ c.shooters.invariant.same; sound = c.take_turn.ensures.sound }

pub returns-clause-targets : goal.returns-clause-targets
returns-clause-targets c =
    let many = length_seen c.args.strengths.now c.args.round c.args.shooters.now in
    let e = volley_none c.shooters.shooter-index (all_seen c.args.strengths.now c.args.round c.args.shooters.now) (all_seen c.args.table.now c.args.round c.shooters.targets) c.shooters.draws (omega (arith, many, c.shooters-test.false)) in
    ap (λ (v : Volley). v.targets) (sym e ∙ c.shooters.invariant.same)

pub returns-clause-words : goal.returns-clause-words
returns-clause-words c =
    let many = length_seen c.args.strengths.now c.args.round c.args.shooters.now in
    let e = volley_none c.shooters.shooter-index (all_seen c.args.strengths.now c.args.round c.args.shooters.now) (all_seen c.args.table.now c.args.round c.shooters.targets) c.shooters.draws (omega (arith, many, c.shooters-test.false)) in
    ap (λ (v : Volley). v.stream) (sym e ∙ c.shooters.invariant.same)
