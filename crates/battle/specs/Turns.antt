-- Whose turn it is to fire. Rule: docs/RULES.md, "The order of fire".
use Rattle.std.specs.Prelude.{ℕ, Bool, true, false, List, ◌+◌, ◌*◌, ◌==◌, ◌&&◌, ◌||◌, ◌≡◌, not, length, nat_le, nat_lt}
use Rattle.std.specs.List.{list_any}
use Rattle.battle.specs.declared.limits.TheConstants.{MOST_ROUNDS}
use Rattle.battle.specs.Sides.{Battle, Party, attackers, planet, units}
use Rattle.battle.specs.Shots.{Shot, alive, is_alive, rank, unit_at}

-- a unit's turn in a round
pub record Turn : Type 0 where
  pub round : ℕ
  pub party : Party
  pub place : ℕ

-- the turn in which a shot is fired
abbrev pub turn_of : Shot → Turn
turn_of s = record { round = s.round; party = s.party; place = s.shooter }

-- a round has two halves: first the attackers' units fire, then the planet's
abbrev pub half : Turn → ℕ
half t = 2 * t.round + rank t.party

abbrev pub is_same : Turn → Turn → Bool
is_same t u = half t == half u && t.place == u.place

-- turns come by halves, and in a half by places
abbrev pub is_before : Turn → Turn → Bool
is_before t u = nat_lt (half t) (half u) || half t == half u && nat_lt t.place u.place

-- a round is fought, of six at most, if both sides have units alive at its start
abbrev pub is_round_fought : Battle → List Shot → ℕ → Bool
is_round_fought b shots round =
    nat_le 1 round && nat_le round MOST_ROUNDS && nat_lt 0 (length (alive b shots round attackers)) && nat_lt 0 (length (alive b shots round planet))

-- a unit has fired all its shots of a round if one of them does not let it fire again
abbrev pub has_fired : List Shot → Turn → Bool
has_fired shots t = list_any (λ s. is_same (turn_of s) t && not s.again) shots

-- whether a unit is to fire: the round is fought, it is alive at the round's start, it has an attack, and it has not
-- fired all its shots
abbrev pub is_open : Battle → List Shot → Turn → Bool
is_open b shots t =
    is_round_fought b shots t.round
    && nat_lt t.place (length (units b t.party))
    && is_alive shots t.round t.party t.place
    && nat_lt 0 (unit_at b t.party t.place).attack
    && not (has_fired shots t)

-- the next turn after some shots: a unit is to fire, and none whose turn comes before
pub record IsNext (b : Battle) (shots : List Shot) (t : Turn) : Type 0 where
  pub open_now : is_open b shots t ≡ true
  pub first : (u : Turn) → is_before u t ≡ true → is_open b shots u ≡ false
