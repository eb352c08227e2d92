-- How a battle ends, as a function, for definitions that go on with what is left. What is believed of a battle is its
-- trace; that its course ends in the same way is a law (`battles_end_as_their_course`).
use Rattle.std.specs.Prelude.{ℕ, List}
use Rattle.battle.specs.Course.{course, course_outcome, fighters_of}
use Rattle.battle.specs.Outcomes.{survivors}
use Rattle.battle.specs.Sides.{battle_of}
use Rattle.battle.specs.declared.outcome.Outcome.{Outcome}
use Rattle.battle.specs.declared.part.Part.{Part}

-- who has won, and both sides, each part with the units that are left of it
pub record BattleEnd : Type 0 where
  pub outcome : Outcome
  pub attackers : List Part
  pub planet : List Part

-- the end of the battle of this number between attackers and a planet, from this seed
unfoldable pub battle_end : List Part → List Part → ℕ → ℕ → BattleEnd
battle_end attacking defending seed number =
    let field = course (battle_of attacking defending seed number) in
    record {
      outcome = course_outcome field;
      attackers = survivors (fighters_of field.attackers) attacking;
      planet = survivors (fighters_of field.planet) defending;
    }
