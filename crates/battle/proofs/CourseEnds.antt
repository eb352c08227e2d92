-- A battle ends as its course ends, and a battle has one end.
use Rattle.std.proofs.Common.{◌≡◌, ℕ, List, ap, ◌∙◌, sym}
use Rattle.battle.proofs.AllRounds.{course_ends}
use Rattle.battle.proofs.Fought.{fought, same_outcome}
use Rattle.battle.proofs.OneTrace.{one_trace}
use Rattle.battle.specs.Course.{combatants, course, course_outcome, fighters_of}
use Rattle.battle.specs.Ending.{battle_end}
use Rattle.battle.specs.Outcomes.{IsFought, left, outcome, survivors}
use Rattle.battle.specs.Shots.{Shot}
use Rattle.battle.specs.Sides.{Battle, Party, attackers, planet, battle_of}
use Rattle.battle.specs.Trace.{IsTrace}
use Rattle.battle.specs.declared.outcome.Outcome.{Outcome}
use Rattle.battle.specs.declared.part.Part.{Part}

pub outcome_by_course : (b : Battle) (shots : List Shot) → IsTrace b shots → outcome b shots ≡ course_outcome (course b)
outcome_by_course b shots trace =
    let ends = course_ends b in
    ap (outcome b) (one_trace b shots ends.shots trace ends.trace) ∙ sym (same_outcome b (course b) ends)

pub left_by_course : (b : Battle) (shots : List Shot) (party : Party) → IsTrace b shots → left b shots party ≡ fighters_of (combatants (course b) party)
left_by_course b shots attackers trace =
    let ends = course_ends b in
    ap (λ ts. left b ts attackers) (one_trace b shots ends.shots trace ends.trace) ∙ ends.attackers_left
left_by_course b shots planet trace =
    let ends = course_ends b in
    ap (λ ts. left b ts planet) (one_trace b shots ends.shots trace ends.trace) ∙ ends.planet_left

-- the end of a battle is what its trace leads to
pub battle_end_is_fought : (attacking defending : List Part) (seed number : ℕ)
    → IsFought attacking defending seed number (battle_end attacking defending seed number).outcome (battle_end attacking defending seed number).attackers (battle_end attacking defending seed number).planet
unfolding battle_end
battle_end_is_fought attacking defending seed number = fought attacking defending seed number

-- and nothing else is
pub one_battle_end : (attacking defending attackers_left planet_left : List Part) (seed number : ℕ) (result : Outcome)
    → IsFought attacking defending seed number result attackers_left planet_left
    → (result ≡ (battle_end attacking defending seed number).outcome)
    × (attackers_left ≡ (battle_end attacking defending seed number).attackers)
    × (planet_left ≡ (battle_end attacking defending seed number).planet)
unfolding battle_end
one_battle_end attacking defending attackers_left planet_left seed number result ends =
    let b = battle_of attacking defending seed number in (
      ends.is_outcome ∙ outcome_by_course b ends.shots ends.trace,
      ends.attackers_left ∙ ap (λ fs. survivors fs attacking) (left_by_course b ends.shots attackers ends.trace),
      ends.planet_left ∙ ap (λ fs. survivors fs defending) (left_by_course b ends.shots planet ends.trace),
    )
