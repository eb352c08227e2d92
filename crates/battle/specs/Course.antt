-- The course of a battle, computed with lists of the units that stand. It leads to what the trace leads to.
use Rattle.std.specs.Prelude.{ℕ, zero, suc, List, [], ◌∷◌, ◌+◌, ◌-◌, ◌&&◌, ◌||◌, not, filter, length, map, get_or, nat_lt, Bool, false, if◌then◌else◌}
use Rattle.std.specs.List.{slice_set}
use Rattle.rand_pcg.specs.Lcg.{Lcg}
use Rattle.draws.specs.Draws.{after, draw, word_at}
use Rattle.battle.specs.declared.combatant.Combatant.{Combatant}
use Rattle.battle.specs.declared.fighter.Fighter.{Fighter}
use Rattle.battle.specs.declared.limits.TheConstants.{MOST_ROUNDS, MOST_SHOTS}
use Rattle.battle.specs.declared.outcome.Outcome.{Outcome}
use Rattle.battle.specs.Outcomes.{verdict_of}
use Rattle.battle.specs.Sides.{Battle, Party, attackers, planet}
use Rattle.battle.specs.Rules.{destroys, fires_again, hull_left, is_rapid, is_weak, shield_loss}
use Rattle.battle.specs.Shots.{nobody}
use Rattle.battle.specs.Trace.{one_if}

-- a unit with its full shield again; its hull stays as it is
abbrev pub with_full_shield : Combatant → Combatant
with_full_shield c = record c { shield = c.fighter.shield }

-- a unit at the start of a battle
abbrev pub unhurt : Fighter → Combatant
unhurt f = record { fighter = f; shield = f.shield; hull = f.hull; is_destroyed = false }

-- a unit after a shot at it; if its hull is weak then, this word decides
abbrev pub struck : ℕ → ℕ → Combatant → Combatant
struck attack word target =
    record target {
      shield = target.shield - shield_loss attack target;
      hull = hull_left attack target;
      is_destroyed = target.is_destroyed || destroys attack word target;
    }

-- units that were shot at, and where the stream stands then
pub record Volley : Type 0 where
  pub targets : List Combatant
  pub stream : Lcg

-- the place that the next word gives among the targets
abbrev pub place_drawn : List Combatant → Lcg → ℕ
place_drawn targets stream = draw (word_at stream 0) (length targets)

-- the target there
abbrev pub target_drawn : List Combatant → Lcg → Combatant
target_drawn targets stream = get_or targets (place_drawn targets stream) (unhurt nobody)

-- how many words are drawn for a weak hull
abbrev pub weak_words : Fighter → Combatant → ℕ
weak_words f target = one_if (is_weak f.attack target)

-- after one shot of a unit, its `count`th of the round
abbrev pub after_shot : ℕ → Fighter → List Combatant → Lcg → Volley
after_shot count f targets stream =
    let target = target_drawn targets stream in
    record {
      targets = slice_set targets (place_drawn targets stream) (struck f.attack (word_at stream 1) target);
      stream = after (1 + weak_words f target + one_if (is_rapid f.kind target.fighter.kind count)) stream;
    }

-- whether the unit fires again after that shot
abbrev pub goes_on : ℕ → Fighter → List Combatant → Lcg → Bool
goes_on count f targets stream =
    let target = target_drawn targets stream in
    fires_again f.kind target.fighter.kind count (word_at stream (1 + weak_words f target))

-- after the shots of a unit, from its `count`th of the round on and at most `most`
unfoldable pub after_salvo : ℕ → ℕ → Fighter → List Combatant → Lcg → Volley
after_salvo zero count f targets stream = record { targets = targets; stream = stream }
after_salvo (suc most) count f targets stream =
    let next = after_shot count f targets stream in
    if goes_on count f targets stream then after_salvo most (count + 1) f next.targets next.stream else next

-- after a unit's turn: a unit of attack 0 does not fire
abbrev pub after_turn : Fighter → List Combatant → Lcg → Volley
after_turn f targets stream = if nat_lt 0 f.attack then after_salvo MOST_SHOTS 1 f targets stream else record { targets = targets; stream = stream }

-- after the turns of units, one after the other
unfoldable pub after_volley : List Combatant → List Combatant → Lcg → Volley
after_volley [] targets stream = record { targets = targets; stream = stream }
after_volley (c ∷ cs) targets stream = let next = after_turn c.fighter targets stream in after_volley cs next.targets next.stream

-- the units that still stand, for the next round
abbrev pub standing : List Combatant → List Combatant
standing cs = map with_full_shield (filter (λ c. not c.is_destroyed) cs)

-- both sides and the stream, and how many rounds were fought
pub record Field : Type 0 where
  pub attackers : List Combatant
  pub planet : List Combatant
  pub stream : Lcg
  pub rounds : ℕ

-- after one round more
abbrev pub after_round : Field → Field
after_round field =
    let first = after_volley field.attackers field.planet field.stream in
    let second = after_volley first.targets field.attackers first.stream in
    record {
      attackers = standing second.targets;
      planet = standing first.targets;
      stream = second.stream;
      rounds = field.rounds + 1;
    }

abbrev pub both_stand : Field → Bool
both_stand field = nat_lt 0 (length field.attackers) && nat_lt 0 (length field.planet)

-- after so many rounds more, as long as both sides stand
unfoldable pub after_rounds : ℕ → Field → Field
after_rounds zero field = field
after_rounds (suc most) field = if both_stand field then after_rounds most (after_round field) else field

-- a battle before its first round
abbrev pub start_of : Battle → Field
start_of b = record { attackers = map unhurt b.attackers; planet = map unhurt b.planet; stream = b.stream; rounds = 0 }

-- a battle after its last round
abbrev pub course : Battle → Field
course b = after_rounds MOST_ROUNDS (start_of b)

-- how a battle ends by its course
abbrev pub course_outcome : Field → Outcome
course_outcome field =
    record { verdict = verdict_of (nat_lt 0 (length field.attackers)) (nat_lt 0 (length field.planet)); rounds = field.rounds }

-- the combatants of one side
abbrev pub combatants : Field → Party → List Combatant
combatants field attackers = field.attackers
combatants field planet = field.planet

-- the units of combatants
abbrev pub fighters_of : List Combatant → List Fighter
fighters_of cs = map (λ c. c.fighter) cs
