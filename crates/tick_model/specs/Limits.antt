-- The limits that every state of a universe keeps besides its rules. Rules: docs/RULES.md, "Refusals".
use Rattle.std.specs.Prelude.{◌≡◌, ℕ, ◌+◌, ◌≤◌, ◌==◌, List, [], ◌∷◌, All, true, false, length, sum, sum_by, if◌then◌else◌}
use Rattle.base_ids.specs.Cells.{same_coord, same_player}
use Rattle.base_ids.specs.declared.cell_id.CellId.{CellId}
use Rattle.base_ids.specs.declared.cell_id.CellId.TheVariants.{Account}
use Rattle.base_ids.specs.declared.player.Player.{Player}
use Rattle.catalog.specs.Classes.{is_building, is_technology}
use Rattle.catalog.specs.Kinds.{kind_number}
use Rattle.catalog.specs.Levels.{level_cap_of}
use Rattle.catalog.specs.Technologies.{level_in}
use Rattle.catalog.specs.declared.kind.Kind.{Kind}
use Rattle.catalog.specs.declared.ships.TheConstants.{UNITS}
use Rattle.flight.specs.Freight.{capacity_of}
use Rattle.tick_model.specs.declared.codes.TheConstants.{MOST_QUEUED}
use Rattle.tick_model.specs.Flights.{cargo_units}
use Rattle.tick_model.specs.Lines.{own_fleets, slots_of}
use Rattle.tick_model.specs.Production.{level_of}
use Rattle.tick_model.specs.Raids.{is_attack}
use Rattle.tick_model.specs.Refusals.{is_dome, queued, used_fields}
use Rattle.tick_model.specs.Rules.{IsIn}
use Rattle.tick_model.specs.Sending.{suits}
use Rattle.tick_model.specs.Universe.{of_account, of_planet, AccountFields, PlanetFields, QueueClass, Buildings, Researches, Yard, Fleet, Item, Setting, State}
use Rattle.tick_model.specs.Views.{holding_at, queue_in, units_of}
use Rattle.tick_model.specs.Yards.{count_of}

-- how many units of a kind some batches are to build
abbrev pub ordered_units : Kind → List Item → ℕ
ordered_units kind batches = sum_by (λ batch. if kind_number batch.kind == kind_number kind then batch.left else 0) batches

-- what waits in a queue has no level and no seconds yet
abbrev pub Waits : Item → Type 0
Waits item = (item.level ≡ 0) × (item.unit_seconds ≡ 0) × (item.second ≡ 0)

-- all but the first of a queue wait
abbrev pub OthersWait : List Item → Type 0
OthersWait [] = Unit {0}
OthersWait (first ∷ waiting) = All Waits waiting

-- the first item of a queue reaches the level above the present one of its kind, and the others wait
abbrev pub Rises : (Kind → ℕ) → List Item → Type 0
Rises level [] = Unit {0}
Rises level (first ∷ waiting) = (first.level ≡ level first.kind + 1) × All Waits waiting

-- No building rises above its highest level, nor do all together need more fields than there are, even if all that is queued is
-- built. So too a planet has at most one dome of each kind. The first building of the queue is the next level of its kind.
pub record KeepsLevels (planet : PlanetFields) (queue : QueueClass → List Item) : Type 0 where
  pub capped : (kind : Kind) → is_building kind ≡ true → level_of planet kind + queued kind (queue Buildings) ≤ level_cap_of kind
  pub fielded : used_fields planet + length (queue Buildings) ≤ planet.fields
  pub domed : (kind : Kind) → is_dome kind ≡ true → count_of planet kind + ordered_units kind (queue Yard) ≤ 1
  pub rising : Rises (level_of planet) (queue Buildings)
  pub waiting : OthersWait (queue Yard)

-- No technology rises above its highest level, even if all that is queued is researched. The first one of the queue is the next
-- level of its kind.
pub record KeepsTechs (account : AccountFields) (items : List Item) : Type 0 where
  pub capped : (kind : Kind) → is_technology kind ≡ true → level_in account.techs.n kind + queued kind items ≤ level_cap_of kind
  pub rising : Rises (level_in account.techs.n) items

-- a fleet has ships, and no more cargo than they carry
abbrev pub IsLoaded : Fleet → Type 0
IsLoaded fleet = (1 ≤ sum fleet.ships) × (cargo_units fleet.cargo ≤ capacity_of fleet.ships)

-- A fleet flies to another planet. Its mission suits the owner of that, and its ships. If it doesn't attack, its group is its own
-- number. Groups bear numbers from 1.
pub record IsErrand (fleet : Fleet) : Type 0 where
  pub elsewhere : same_coord fleet.origin fleet.target ≡ false
  pub suited : suits fleet.mission (same_player fleet.target_owner fleet.owner) fleet.ships ≡ true
  pub alone : is_attack fleet.mission ≡ false → fleet.group ≡ fleet.number
  pub grouped : 1 ≤ fleet.group

-- No queue has more items than it may have, and no account more units: those of its planets, in its yards and in its fleets. Levels
-- keep their caps, planets their fields, and fleets their capacity and their errands; and no account has more fleets than its computers allow.
pub record KeepsLimits (setting : Setting) (state : State) : Type 0 where
  pub queued : (cell : CellId) (class : QueueClass) → length (queue_in state.items cell class) ≤ MOST_QUEUED
  pub counted : (player : Player) → units_of setting.cells (holding_at state) state.fleets (Account player) ≤ UNITS
  pub levelled : (cell : CellId) (planet : PlanetFields) → state.own cell ≡ of_planet planet → KeepsLevels planet (queue_in state.items cell)
  pub learned : (cell : CellId) (account : AccountFields) → state.own cell ≡ of_account account → KeepsTechs account (queue_in state.items cell Researches)
  pub loaded : (fleet : Fleet) → IsIn fleet state.fleets → IsLoaded fleet
  pub errands : (fleet : Fleet) → IsIn fleet state.fleets → IsErrand fleet
  pub slots : (player : Player) (account : AccountFields) → state.own (Account player) ≡ of_account account → length (own_fleets player state.fleets) ≤ slots_of account
