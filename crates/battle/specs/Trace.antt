-- The trace of a battle: which lists of shots are legal, and which are whole. Two sides, a seed and a number have
-- exactly one legal and whole trace. Rule: docs/RULES.md, "The trace of a battle".
use Rattle.std.specs.Prelude.{ℕ, Bool, false, List, [], ◌∷◌, ◌++◌, ◌+◌, ◌≡◌, length, map, get_or, if◌then◌else◌}
use Rattle.std.specs.List.{count_by, range_with_len}
use Rattle.draws.specs.Draws.{draw, word_at}
use Rattle.battle.specs.declared.combatant.Combatant.{Combatant}
use Rattle.battle.specs.declared.fighter.Fighter.{Fighter}
use Rattle.battle.specs.Sides.{Battle, enemy}
use Rattle.battle.specs.Shots.{Shot, alive, drawn, found, unit_at}
use Rattle.battle.specs.Turns.{Turn, IsNext, is_open, is_same, turn_of}
use Rattle.battle.specs.Rules.{destroys, fires_again, hull_loss, is_rapid, is_weak, shield_loss}

-- the unit that fires a shot
abbrev pub shooter_of : Battle → Shot → Fighter
shooter_of b s = unit_at b s.party s.shooter

-- the unit that is shot at, as the shot finds it
abbrev pub target_of : Battle → List Shot → Shot → Combatant
target_of b before s = found b before s.round (enemy s.party) s.target

-- the units that may be shot at: the places of the other side's units that are alive at the round's start
abbrev pub targets_of : Battle → List Shot → Shot → List ℕ
targets_of b before s = alive b before s.round (enemy s.party)

-- the words that a battle draws next after some shots, counted from 0
abbrev pub next_word : Battle → List Shot → ℕ → ℕ
next_word b before i = word_at b.stream (drawn before + i)

-- one word for a draw that is made, none for one that is not made
abbrev pub one_if : Bool → ℕ
one_if is_made = if is_made then 1 else 0

-- whether a draw decides over a weak hull
abbrev pub weakens : Battle → List Shot → Shot → Bool
weakens b before s = is_weak (shooter_of b s).attack (target_of b before s)

-- whether a draw decides over a further shot
abbrev pub is_rapid_shot : Battle → Shot → Bool
is_rapid_shot b s = is_rapid (shooter_of b s).kind (unit_at b (enemy s.party) s.target).kind s.count

-- a shot is legal after the shots before it
pub record IsLegalAfter (b : Battle) (before : List Shot) (s : Shot) : Type 0 where
  -- it is the shooter's turn
  pub turn : IsNext b before (turn_of s)
  -- the shot counts itself
  pub count : s.count ≡ 1 + count_by (λ t. is_same (turn_of t) (turn_of s)) before
  -- the first word says which of the units that may be shot at is the target
  pub target : s.target ≡ get_or (targets_of b before s) (draw (next_word b before 0) (length (targets_of b before s))) 0
  -- what the shield and the hull take
  pub shield : s.shield ≡ shield_loss (shooter_of b s).attack (target_of b before s)
  pub hull : s.hull ≡ hull_loss (shooter_of b s).attack (target_of b before s)
  -- the second word decides over a weak hull
  pub destroyed : s.destroyed ≡ destroys (shooter_of b s).attack (next_word b before 1) (target_of b before s)
  -- the last word decides whether the shooter fires again
  pub again : s.again ≡ fires_again (shooter_of b s).kind (unit_at b (enemy s.party) s.target).kind s.count (next_word b before (1 + one_if (weakens b before s)))
  -- the words are the next ones: one for the target, and one for each other draw that is made
  pub words : s.words ≡ map (next_word b before) (range_with_len 0 (1 + one_if (weakens b before s) + one_if (is_rapid_shot b s)))

-- shots are legal after others if each of them is legal after those before it
unfoldable pub AreLegalAfter : Battle → List Shot → List Shot → Type 0
AreLegalAfter b before [] = Unit
AreLegalAfter b before (s ∷ later) = IsLegalAfter b before s × AreLegalAfter b (before ++ s ∷ []) later

-- a trace is legal and whole: each shot is legal, and no unit is left to fire
pub record IsTrace (b : Battle) (shots : List Shot) : Type 0 where
  pub legal : AreLegalAfter b [] shots
  pub whole : (t : Turn) → is_open b shots t ≡ false
