-- What a universe has of one cell. Rule: docs/RULES.md, "Names and their order".
use Rattle.std.specs.Prelude.{ℕ, ◌+◌, List, [], Bool, Option, None, Some, filter, filter_map, sum, sum_by, ◌&&◌, ◌||◌, if◌then◌else◌}
use Rattle.base_ids.specs.Cells.{same_cell, same_player}
use Rattle.base_ids.specs.declared.coord.Coord.{Coord}
use Rattle.base_ids.specs.declared.player.Player.{Player}
use Rattle.base_ids.specs.declared.cell_id.CellId.{CellId}
use Rattle.base_ids.specs.declared.cell_id.CellId.TheVariants.{Account, Planet}
use Rattle.tick_model.specs.Universe.{Own, of_nothing, of_planet, QueueClass, Yard, same_class, Item, Fleet, State}

-- What is seen of a cell: what it has of its own; its queues; the fleets that belong to it; and of an account its planets, in
-- the order of the directory, and how many units it has on them, in their yards and in its fleets.
pub record View : Type 0 where
  pub own : Own
  pub queue : QueueClass → List Item
  pub fleets : List Fleet
  pub planets : List Coord
  pub units : ℕ

-- nothing is seen
abbrev pub nothing_seen : View
nothing_seen = record { own = of_nothing; queue = λ class. []; fleets = []; planets = []; units = 0 }

-- an item stands in this queue of a cell
abbrev pub stands_in : CellId → QueueClass → Item → Bool
stands_in cell class item = same_cell cell item.cell && same_class class item.class

-- the items of a queue of a cell, among these
abbrev pub queue_in : List Item → CellId → QueueClass → List Item
queue_in items cell class = filter (stands_in cell class) items

-- a fleet belongs to its origin and its owner's account, and on its way out also to its target and the account
-- of its target's owner
abbrev pub belongs : CellId → Fleet → Bool
belongs cell fleet =
    same_cell (Planet fleet.origin) cell || same_cell (Account fleet.owner) cell
    || (fleet.outbound && (same_cell (Planet fleet.target) cell || same_cell (Account fleet.target_owner) cell))

-- how many units are left to build in some batches
abbrev pub units_left : List Item → ℕ
units_left batches = sum_by (λ batch. batch.left) batches

-- what its owner's account counts of a planet: the units that stand there, and those that its yard is to build
pub record Holding : Type 0 where
  pub owner : Player
  pub units : ℕ

abbrev pub holding : Own → List Item → Option Holding
holding (of_planet planet) batches = Some (record { owner = planet.owner; units = sum planet.units + units_left batches })
holding _ batches = None

abbrev pub holding_at : State → CellId → Option Holding
holding_at state cell = holding (state.own cell) (queue_in state.items cell Yard)

-- the place of a planet, if it is this player's
abbrev pub place_held : Player → CellId → Option Holding → Option Coord
place_held player (Planet at) (Some held) = if same_player held.owner player then Some at else None
place_held player _ _ = None

-- how many units a planet has, if it is this player's
abbrev pub units_held : Player → Option Holding → ℕ
units_held player (Some held) = if same_player held.owner player then held.units else 0
units_held player None = 0

-- the planets of an account
abbrev pub planets_of : List CellId → (CellId → Option Holding) → CellId → List Coord
planets_of cells held (Account player) = filter_map (λ cell. place_held player cell (held cell)) cells
planets_of cells held (Planet at) = []

-- how many ships a fleet has, if it is this player's
abbrev pub ships_of : Player → Fleet → ℕ
ships_of player fleet = if same_player fleet.owner player then sum fleet.ships else 0

-- the units of an account: those of its planets, and the ships of its fleets
abbrev pub units_of : List CellId → (CellId → Option Holding) → List Fleet → CellId → ℕ
units_of cells held fleets (Account player) = sum_by (λ cell. units_held player (held cell)) cells + sum_by (ships_of player) fleets
units_of cells held fleets (Planet at) = 0

abbrev pub view : List CellId → State → CellId → View
view cells state cell =
    record {
      own = state.own cell;
      queue = queue_in state.items cell;
      fleets = filter (belongs cell) state.fleets;
      planets = planets_of cells (holding_at state) cell;
      units = units_of cells (holding_at state) state.fleets cell;
    }

-- nothing of any cell but these is shown
abbrev pub shown : (CellId → Bool) → (CellId → View) → CellId → View
shown cells seen cell = if cells cell then seen cell else nothing_seen
