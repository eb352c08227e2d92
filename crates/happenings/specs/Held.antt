-- Which cells are held, and what they show of a universe whose cells stand at seconds of their own.
use Rattle.std.specs.Prelude.{◌≡◌, ℕ, Bool, List, [], Option, None, Some, IfSome, is_some, option_map, ◌&&◌, if◌then◌else◌}
use Rattle.std.specs.List.{list_any}
use Rattle.base_ids.specs.Cells.{same_cell}
use Rattle.std.specs.BTreeMap.{get}
use Rattle.base_ids.specs.declared.cell_id.CellId.{CellId}
use Rattle.base_ids.specs.declared.cell_id.CellId.TheVariants.{Account as AccountId, Planet as PlanetId}
use Rattle.base_ids.specs.declared.coord.Coord.{Coord}
use Rattle.base_ids.specs.declared.player.Player.{Player}
use Rattle.laziness.specs.Stamps.{Stamps}
use Rattle.account_cell.specs.Account.{account_fields, account_queue}
use Rattle.planet_cell.specs.Planet.{fields_of, queue_of}
use Rattle.tick_model.specs.Game.{game}
use Rattle.tick_model.specs.Universe.{of_account, of_planet, Setting}
use Rattle.tick_model.specs.Views.{View, view}
use Rattle.happenings.specs.Orders.{player_order, place_order}
use Rattle.happenings.specs.declared.held.AccountCell.{AccountCell}
use Rattle.happenings.specs.declared.held.PlanetCell.{PlanetCell}
use Rattle.happenings.specs.declared.held.Held.{Held}

-- what is held of a cell: the second at which it stands, and what is seen of it then
pub record Stand : Type 0 where
  pub second : ℕ
  pub seen : View

-- an account that is held
abbrev pub account_stand : AccountCell → Stand
account_stand cell =
    record {
      second = cell.second;
      seen = record { own = of_account (account_fields cell.account); queue = account_queue cell.account; fleets = cell.fleets; planets = cell.account.planets.items; units = cell.account.units };
    }

-- a planet that is held
abbrev pub planet_stand : PlanetCell → Stand
planet_stand cell =
    record {
      second = cell.second;
      seen = record { own = of_planet (fields_of cell.planet); queue = queue_of cell.planet; fleets = cell.fleets; planets = []; units = 0 };
    }

-- what is held of the cell of this name
abbrev pub held_at : Held → CellId → Option Stand
held_at held (AccountId player) = option_map account_stand (get player_order held.accounts player)
held_at held (PlanetId at) = option_map planet_stand (get place_order held.planets at)

-- a cell of this name is held
abbrev pub holds : Held → CellId → Bool
holds held cell = is_some (held_at held cell)

-- a cell shows a universe: it stands at the universe's second of that cell, and has what the universe has of it
pub record ShowsCell (setting : Setting) (f : Stamps (game setting)) (cell : CellId) (stand : Stand) : Type 0 where
  pub second : stand.second ≡ f.at cell
  pub seen : stand.seen ≡ view setting.cells f.universe cell

-- every cell that is held shows the universe
abbrev pub Shows : (setting : Setting) → Held → Stamps (game setting) → Type 0
Shows setting held f = (cell : CellId) → IfSome (held_at held cell) (ShowsCell setting f cell)

-- each cell is kept under its own name
pub record IsNamed (held : Held) : Type 0 where
  pub players : (player : Player) → IfSome (get player_order held.accounts player) (λ cell. cell.account.player ≡ player)
  pub places : (at : Coord) → IfSome (get place_order held.planets at) (λ cell. cell.planet.at ≡ at)

-- one cell is held anew, and all others as before
abbrev pub Puts : Held → Held → CellId → Stand → Type 0
Puts old new name stand = (cell : CellId) → held_at new cell ≡ (if same_cell name cell then Some stand else held_at old cell)

-- of just these cells something is held: what is told of them here
abbrev pub PicksFrom : (CellId → Option Stand) → List CellId → Held → Type 0
PicksFrom there names new = (cell : CellId) → held_at new cell ≡ (if list_any (same_cell cell) names then there cell else None)

-- just these cells are held, each as it was held before
abbrev pub Picks : Held → List CellId → Held → Type 0
Picks old names new = PicksFrom (held_at old) names new

-- the same cells are held, each as it was held before
abbrev pub IsEqual : Held → Held → Type 0
IsEqual old new = (cell : CellId) → held_at new cell ≡ held_at old cell

-- of a cell what is told of it here is held, if anything is, and all others as before
abbrev pub CopiesFrom : (CellId → Option Stand) → CellId → Held → Held → Type 0
CopiesFrom there name old new = (cell : CellId) → held_at new cell ≡ (if same_cell name cell && is_some (there cell) then there cell else held_at old cell)

-- a cell that is held there is held here too, and all others as before
abbrev pub Copies : Held → CellId → Held → Held → Type 0
Copies there name old new = CopiesFrom (held_at there) name old new
