use Rattle.std.proofs.Common.{◌≡◌, ℕ, ◌≤◌, List, length, map, nat_lt, ap, subst, sym, ◌∙◌, arith, rules}
use Rattle.std.proofs.lemmas.List.{length-map}
use Rattle.battle.specs.declared.army.Army.{Army}
use Rattle.battle.specs.declared.fighter.Fighter.{Fighter}
use Rattle.battle.specs.declared.limits.TheConstants.{MOST_UNITS}
use Rattle.battle.specs.declared.part.Part.{Part}
use Rattle.battle.specs.Arrays.{fighter_of, shown}
use Rattle.battle.specs.Course.{fighters_of, unhurt}
use Rattle.battle.specs.Outcomes.{survivors, verdict_of}
use Rattle.battle.specs.Sides.{IsSide, fighters}
use Rattle.battle.proofs.Again.{still_side}
use Rattle.battle.proofs.Fought.{fought_by_rounds}
use Rattle.battle.proofs.Shown.{fighters_seen, known, length_seen}
use Rattle.battle.proofs.fighting.fight.Goals as goal

-- what is left of a side, by the combatants that its army shows
left_shown : (round : ℕ) (army : Army) (before after : List Part) → after ≡ survivors (map (fighter_of army.table.items) army.units.items) before
    → after ≡ survivors (fighters_of (shown round army)) before
left_shown round army before after same = same ∙ ap (λ (fs : List Fighter). survivors fs before) (fighters_seen army.table.items round army.units.items)

-- how many combatants an army shows
many_shown : (round : ℕ) (army : Army) (n : ℕ) → n ≡ length army.units.items → n ≡ length (shown round army)
many_shown round army n same = same ∙ sym (length_seen army.table.items round army.units.items)

pub keep-requires-clause-known : goal.keep-requires-clause-known
keep-requires-clause-known c = known _ c.fight_rounds-rounds.result _ c.fight_rounds-rounds.ensures.attackers.sound

pub keep-requires-2-clause-known : goal.keep-requires-2-clause-known
keep-requires-2-clause-known c = known _ c.fight_rounds-rounds.result _ c.fight_rounds-rounds.ensures.planet.sound

pub returns-clause-ok : goal.returns-clause-ok
returns-clause-ok c =
    let rounds = c.fight_rounds-rounds.result in
    let attackers = c.fight_rounds-rounds.new.attackers in
    let planet = c.fight_rounds-rounds.new.planet in
    let attackers_len : c.len.result ≡ length (shown rounds attackers) = many_shown rounds attackers c.len.result (search rules) in
    let planet_len : c.len-2.result ≡ length (shown rounds planet) = many_shown rounds planet c.len-2.result (search rules) in
    fought_by_rounds c.args.att.now c.args.def.now c.keep.new.self c.keep-2.new.self c.args.seed c.args.number rounds
    (shown 0 c.in_ok-attackers.attackers) (shown 0 c.in_ok-planet.planet) (shown rounds attackers) (shown rounds planet) c.new-draws.result c.fight_rounds-rounds.new.draws c.verdict-verdict.result
    (c.in_ok-attackers.ensures.shown ∙ ap (λ (ps : List Part). map unhurt (fighters ps)) c.as_slice.ensures)
    (c.in_ok-planet.ensures.shown ∙ ap (λ (ps : List Part). map unhurt (fighters ps)) c.as_slice-2.ensures)
    c.new-draws.ensures
    c.fight_rounds-rounds.ensures.course
    (c.verdict-verdict.ensures
    ∙ ap (λ (n : ℕ). verdict_of (nat_lt 0 n) (nat_lt 0 c.len-2.result)) attackers_len
    ∙ ap (λ (n : ℕ). verdict_of (nat_lt 0 (length (shown rounds attackers))) (nat_lt 0 n)) planet_len)
    (left_shown rounds attackers c.args.att.now c.keep.new.self c.keep.ensures)
    (left_shown rounds planet c.args.def.now c.keep-2.new.self c.keep-2.ensures)

pub returns-clause-again : goal.returns-clause-again
returns-clause-again c = (
  still c.args.att.now c.keep.new.self c.fight_rounds-rounds.new.attackers c.requires.attackers c.fight_rounds-rounds.ensures.attackers.most c.keep.ensures,
  still c.args.def.now c.keep-2.new.self c.fight_rounds-rounds.new.planet c.requires.planet c.fight_rounds-rounds.ensures.planet.most c.keep-2.ensures,
)
  where
    still : (before after : List Part) (living : Army) → IsSide before → length living.units.items ≤ MOST_UNITS
        → after ≡ survivors (map (fighter_of living.table.items) living.units.items) before → IsSide after
    still before after living side most same =
        subst IsSide (sym same)
        (still_side (map (fighter_of living.table.items) living.units.items) before side
        (let fewer = length-map living.units.items (fighter_of living.table.items) in omega (arith, fewer, most)))
