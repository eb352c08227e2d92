-- The rules that every state of a universe keeps.
use Rattle.std.specs.Prelude.{◌≡◌, ℕ, ◌≤◌, ◌<◌, ◌⊎◌, ◌==◌, List, [], ◌∷◌, Bool, true, false, not, ◌&&◌, length, if◌then◌else◌}
use Rattle.std.specs.List.{Contains, list_any}
use Rattle.base_ids.specs.Cells.{same_cell}
use Rattle.base_ids.specs.declared.coord.Coord.{Coord}
use Rattle.base_ids.specs.declared.player.Player.{Player}
use Rattle.base_ids.specs.declared.cell_id.CellId.{CellId}
use Rattle.base_ids.specs.declared.cell_id.CellId.TheVariants.{Account, Planet}
use Rattle.catalog.specs.Kinds.{place_in}
use Rattle.catalog.specs.declared.classes.TheConstants.{UNIT_KINDS}
use Rattle.catalog.specs.declared.mission.Mission.TheVariants.{Deploy}
use Rattle.catalog.specs.declared.ships.TheConstants.{SHIPS}
pub use Rattle.tick_model.specs.Changes.{same_flight}
use Rattle.tick_model.specs.declared.codes.TheConstants.{MOST_IN_GROUP}
use Rattle.tick_model.specs.Raids.{outbound_in}
use Rattle.tick_model.specs.Requests.{is_there}
use Rattle.tick_model.specs.Universe.{of_planet, PlanetFields, QueueClass, Buildings, Researches, Yard, Item, Fleet, same_class, Setting, State}
use Rattle.tick_model.specs.Views.{queue_in}

-- something is one of these
abbrev pub IsIn : {A : Type 0} → A → List A → Type 0
IsIn x [] = ⊥
IsIn x (first ∷ later) = (x ≡ first) ⊎ IsIn x later

-- two items of one class bear the same number
abbrev pub same_order : Item → Item → Bool
same_order a b = same_class a.class b.class && a.number == b.number

-- no two items of one class bear the same number
abbrev pub AreDistinct : List Item → Type 0
AreDistinct [] = Unit {0}
AreDistinct (item ∷ later) = (list_any (same_order item) later ≡ false) × AreDistinct later

-- the cell whose queue has what a planet pays: research is its owner's, and all else its own
abbrev pub queue_cell : QueueClass → Coord → Player → CellId
queue_cell Researches at owner = Account owner
queue_cell Buildings at owner = Planet at
queue_cell Yard at owner = Planet at

-- a batch has units left to build
abbrev pub IsBatch : QueueClass → Item → Type 0
IsBatch Yard item = (1 ≤ item.left) × (place_in UNIT_KINDS item.kind < length UNIT_KINDS)
IsBatch Buildings item = Unit {0}
IsBatch Researches item = Unit {0}

-- the planet that pays an item stands, and the item is in the queue of the right cell
pub record IsPlaced (state : State) (item : Item) : Type 0 where
  pub planet : PlanetFields
  pub stands : state.own (Planet item.place) ≡ of_planet planet
  pub cell : item.cell ≡ queue_cell item.class item.place planet.owner
  pub batch : IsBatch item.class item

-- A fleet flies between two planets, the origin its owner's, and has a count for each kind of ships. On its way out it arrives later
-- than it was sent; and it is deployed to a planet of its owner alone. Its group is that of a request that came no later than its own.
pub record IsFlying (state : State) (fleet : Fleet) : Type 0 where
  pub from : PlanetFields
  pub leaves : state.own (Planet fleet.origin) ≡ of_planet from
  pub is_own : from.owner ≡ fleet.owner
  pub to : PlanetFields
  pub reaches : state.own (Planet fleet.target) ≡ of_planet to
  pub is_theirs : to.owner ≡ fleet.target_owner
  pub kinds : length fleet.ships ≡ length SHIPS
  pub later : fleet.outbound ≡ true → fleet.launch < fleet.second
  pub deployed : fleet.mission ≡ Deploy → fleet.target_owner ≡ fleet.owner
  pub grouped : fleet.group ≤ fleet.number

-- no two fleets bear the same number
abbrev pub AreApart : List Fleet → Type 0
AreApart [] = Unit {0}
AreApart (fleet ∷ later) = (list_any (same_flight fleet) later ≡ false) × AreApart later

-- the numbers of fleets rise
abbrev pub DoRise : List Fleet → Type 0
DoRise [] = Unit {0}
DoRise (fleet ∷ later) = ((other : Fleet) → IsIn other later → fleet.number < other.number) × DoRise later

-- if two fleets fly out in one group, they arrive at one place in one second
abbrev pub ArriveTogether : Fleet → Fleet → Type 0
ArriveTogether a b = a.outbound ≡ true → b.outbound ≡ true → a.group ≡ b.group → (a.target ≡ b.target) × (a.second ≡ b.second)

abbrev pub AreTogether : List Fleet → Type 0
AreTogether fleets = (a b : Fleet) → IsIn a fleets → IsIn b fleets → ArriveTogether a b

-- a cell is named once
abbrev pub is_once : CellId → List CellId → Bool
is_once cell [] = false
is_once cell (first ∷ cells) = if same_cell cell first then not (list_any (same_cell cell) cells) else is_once cell cells

-- The directory lists every cell that is there, and the account of each planet's owner, and none twice; and a planet counts units of all kinds. Each
-- item is in the queue of the right cell, and bears the number of a request that has come, no two of one class the same. The
-- units of a yard's first batch take a second or more. Each fleet flies between planets and bears the number of a request that has
-- come, no two the same; their numbers rise, and those that fly out in one group arrive
-- together and are few.
pub record KeepsRules (setting : Setting) (state : State) : Type 0 where
  pub listed : (cell : CellId) → is_there (state.own cell) ≡ true → Contains setting.cells cell
  pub once : (cell : CellId) → Contains setting.cells cell → is_once cell setting.cells ≡ true
  pub owned : (cell : CellId) (planet : PlanetFields) → state.own cell ≡ of_planet planet → Contains setting.cells (Account planet.owner)
  pub kinds : (cell : CellId) (planet : PlanetFields) → state.own cell ≡ of_planet planet → length planet.units ≡ length UNIT_KINDS
  pub placed : (item : Item) → IsIn item state.items → IsPlaced state item
  pub drawn : (item : Item) → IsIn item state.items → item.number ≤ state.number
  pub distinct : AreDistinct state.items
  pub paced : (cell : CellId) (batch : Item) (later : List Item) → queue_in state.items cell Yard ≡ batch ∷ later → 1 ≤ batch.unit_seconds
  pub flying : (fleet : Fleet) → IsIn fleet state.fleets → IsFlying state fleet
  pub sent : (fleet : Fleet) → IsIn fleet state.fleets → fleet.number ≤ state.number
  pub apart : AreApart state.fleets
  pub rise : DoRise state.fleets
  pub together : AreTogether state.fleets
  pub few : (group : ℕ) → length (outbound_in group state.fleets) ≤ MOST_IN_GROUP
