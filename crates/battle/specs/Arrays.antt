-- What the arrays of a battle mean: the state of each unit, with its strengths, shows a combatant.
use Rattle.std.specs.Prelude.{ℕ, List, ◌<◌, ◌≤◌, ◌==◌, All, get_or, length, map, if◌then◌else◌}
use Rattle.battle.specs.declared.army.Army.{Army}
use Rattle.battle.specs.declared.combatant.Combatant.{Combatant}
use Rattle.battle.specs.declared.fighter.Fighter.{Fighter}
use Rattle.battle.specs.declared.limits.TheConstants.{MOST_UNITS}
use Rattle.battle.specs.declared.unit_state.UnitState.{UnitState}
use Rattle.battle.specs.Shots.{nobody}

-- the unit that a state belongs to
abbrev pub fighter_of : List Fighter → UnitState → Fighter
fighter_of table unit = get_or table unit.strength nobody

-- what is left of a shield in a round: what was written in this round, else all of it
abbrev pub shield_in : ℕ → Fighter → UnitState → ℕ
shield_in round f unit = if unit.shield_round == round then unit.shield else f.shield

-- the combatant that a state shows in a round
abbrev pub seen_as : ℕ → Fighter → UnitState → Combatant
seen_as round f unit =
    record {
      fighter = f;
      shield = shield_in round f unit;
      hull = unit.hull;
      is_destroyed = unit.is_destroyed;
    }

-- the same, with the strengths of its table
abbrev pub seen : List Fighter → ℕ → UnitState → Combatant
seen table round unit = seen_as round (fighter_of table unit) unit

abbrev pub all_seen : List Fighter → ℕ → List UnitState → List Combatant
all_seen table round units = map (seen table round) units

-- a state is sound: its table has its strengths, and no later round has written its shield
pub record IsSound (strengths round : ℕ) (unit : UnitState) : Type 0 where
  pub has_strength : unit.strength < strengths
  pub written : unit.shield_round ≤ round

pub record AreSound (strengths round : ℕ) (units : List UnitState) : Type 0 where
  pub each : All (IsSound strengths round) units

-- each of these states has its strengths in a table of so many
abbrev pub AreKnown : ℕ → List UnitState → Type 0
AreKnown strengths units = All (λ unit. unit.strength < strengths) units

-- a side while it is set up: it has no more strengths than units, and no round has written a shield
pub record IsMustered (table : List Fighter) (units : List UnitState) : Type 0 where
  pub fewer : length table ≤ length units
  pub sound : AreSound (length table) 0 units

-- the combatants that an army shows in a round
abbrev pub shown : ℕ → Army → List Combatant
shown round army = all_seen army.table.items round army.units.items

-- an army can fight a round: it has no more units than a side may have, and all of them are sound
pub record IsReady (round : ℕ) (army : Army) : Type 0 where
  pub most : length army.units.items ≤ MOST_UNITS
  pub sound : AreSound (length army.table.items) round army.units.items
