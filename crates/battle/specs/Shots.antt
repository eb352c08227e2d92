-- The shots of a battle, and what they have done to a unit. A trace is a list of shots, one row each, in order.
-- Rule: docs/RULES.md, "The trace of a battle".
use Rattle.std.specs.Prelude.{ℕ, Bool, List, ◌-◌, ◌==◌, ◌&&◌, not, filter, length, nat_lt, get_or}
use Rattle.std.specs.List.{list_any, range_with_len, sum_by}
use Rattle.catalog.specs.declared.kind.Kind.TheVariants.{SmallCargo}
use Rattle.battle.specs.Sides.{Battle, Party, attackers, planet, enemy, units}
use Rattle.battle.specs.declared.fighter.Fighter.{Fighter}
use Rattle.battle.specs.declared.combatant.Combatant.{Combatant}

-- one shot; places are those of the units in their sides, counted from 0
pub record Shot : Type 0 where
  -- the round, from 1
  pub round : ℕ
  -- the side that shoots
  pub party : Party
  pub shooter : ℕ
  -- which of this shooter's shots in this round it is, counted from 1
  pub count : ℕ
  -- the unit of the other side that is shot at
  pub target : ℕ
  -- the words that were drawn for it
  pub words : List ℕ
  -- what it takes from the target's shield and from its hull, in tenths
  pub shield : ℕ
  pub hull : ℕ
  -- whether it destroys the target
  pub destroyed : Bool
  -- whether the shooter fires again
  pub again : Bool

-- the attackers come before the planet
abbrev pub rank : Party → ℕ
rank attackers = 0
rank planet = 1

-- whether a shot is one at this unit
abbrev pub is_at : Party → ℕ → Shot → Bool
is_at party place s = rank (enemy party) == rank s.party && s.target == place

-- what shots have taken from a unit's hull
abbrev pub hull_taken : List Shot → Party → ℕ → ℕ
hull_taken shots party place = sum_by (λ s. s.hull) (filter (is_at party place) shots)

-- what the shots of a round have taken from a unit's shield
abbrev pub shield_taken : List Shot → ℕ → Party → ℕ → ℕ
shield_taken shots round party place = sum_by (λ s. s.shield) (filter (λ s. s.round == round && is_at party place s) shots)

-- whether a shot has destroyed a unit
abbrev pub is_destroyed : List Shot → Party → ℕ → Bool
is_destroyed shots party place = list_any (λ s. s.destroyed && is_at party place s) shots

-- whether a unit is alive at the start of a round: no shot of an earlier round has destroyed it
abbrev pub is_alive : List Shot → ℕ → Party → ℕ → Bool
is_alive shots round party place = not (is_destroyed (filter (λ s. nat_lt s.round round) shots) party place)

-- the places of the units of a side that are alive at the start of a round, in order
abbrev pub alive : Battle → List Shot → ℕ → Party → List ℕ
alive b shots round party = filter (is_alive shots round party) (range_with_len 0 (length (units b party)))

-- what is no unit
abbrev pub nobody : Fighter
nobody = record { part = 0; kind = SmallCargo; attack = 0; shield = 0; hull = 0 }

-- the unit at a place of a side
abbrev pub unit_at : Battle → Party → ℕ → Fighter
unit_at b party place = get_or (units b party) place nobody

-- a unit as a shot of this round finds it: its shield was full at the round's start, its hull at the battle's
abbrev pub found : Battle → List Shot → ℕ → Party → ℕ → Combatant
found b shots round party place =
    record {
      fighter = unit_at b party place;
      shield = (unit_at b party place).shield - shield_taken shots round party place;
      hull = (unit_at b party place).hull - hull_taken shots party place;
      is_destroyed = is_destroyed shots party place;
    }

-- how many words shots have drawn
abbrev pub drawn : List Shot → ℕ
drawn shots = sum_by (λ s. length s.words) shots
