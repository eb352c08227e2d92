-- Cells that are held and gain until a moment, with no event. Rule: docs/RULES.md, "What happens in one second".
use Rattle.std.specs.Prelude.{◌≡◌, ℕ, ◌-◌, ◌≤◌, Option, IfSome, option_map}
use Rattle.std.specs.BTreeMap.{BTreeMap, get}
use Rattle.base_ids.specs.declared.cell_id.CellId.{CellId}
use Rattle.base_ids.specs.declared.coord.Coord.{Coord}
use Rattle.base_ids.specs.declared.player.Player.{Player}
use Rattle.laziness.specs.Stamps.{Stamps, bring_to}
use Rattle.tick_model.specs.Game.{game}
use Rattle.tick_model.specs.Production.{gains}
use Rattle.tick_model.specs.Universe.{Setting}
use Rattle.tick_model.specs.declared.rules.Rules.{Rules}
use Rattle.happenings.specs.Held.{Shows, Stand, account_stand, held_at, holds, planet_stand}
use Rattle.happenings.specs.Orders.{place_order, player_order}
use Rattle.happenings.specs.declared.held.AccountCell.{AccountCell}
use Rattle.happenings.specs.declared.held.Held.{Held}
use Rattle.happenings.specs.declared.held.PlanetCell.{PlanetCell}

-- no cell stands later than a moment
abbrev pub AreBehind : ℕ → Held → Type 0
AreBehind moment held = (cell : CellId) → IfSome (held_at held cell) (λ stand. stand.second ≤ moment)

-- what is held of a cell after it gained until a moment
abbrev pub gained : Rules → ℕ → Stand → Stand
gained rules moment stand = record { second = moment; seen = gains rules (moment - stand.second) stand.seen }

-- what is held of the cell of this name, after it gained
abbrev pub gained_at : Rules → ℕ → Held → CellId → Option Stand
gained_at rules moment held cell = option_map (gained rules moment) (held_at held cell)

-- the same cells are held, each after it gained
abbrev pub Gains : Rules → ℕ → Held → Held → Type 0
Gains rules moment old new = (cell : CellId) → held_at new cell ≡ gained_at rules moment old cell

-- the same accounts are held, each at a moment, for accounts gain nothing
abbrev pub AccountsGain : ℕ → BTreeMap Player AccountCell → BTreeMap Player AccountCell → Type 0
AccountsGain moment old new =
    (player : Player) → option_map account_stand (get player_order new player) ≡ option_map (λ (stand : Stand). record stand { second = moment }) (option_map account_stand (get player_order old player))

-- the same planets are held, each after it gained until a moment
abbrev pub PlanetsGain : Rules → ℕ → BTreeMap Coord PlanetCell → BTreeMap Coord PlanetCell → Type 0
PlanetsGain rules moment old new =
    (at : Coord) → option_map planet_stand (get place_order new at) ≡ option_map (gained rules moment) (option_map planet_stand (get place_order old at))

-- what is kept under a player's name is of the same player as before
abbrev pub KeepNames : BTreeMap Player AccountCell → BTreeMap Player AccountCell → Type 0
KeepNames old new = (player : Player) → option_map (λ (cell : AccountCell). cell.account.player) (get player_order new player) ≡ option_map (λ (cell : AccountCell). cell.account.player) (get player_order old player)

-- and what is kept under a place is of the same place
abbrev pub KeepPlaces : BTreeMap Coord PlanetCell → BTreeMap Coord PlanetCell → Type 0
KeepPlaces old new = (at : Coord) → option_map (λ (cell : PlanetCell). cell.planet.at) (get place_order new at) ≡ option_map (λ (cell : PlanetCell). cell.planet.at) (get place_order old at)

-- whatever universe of these rules the cells showed, they now show it with these cells brought to the moment
abbrev pub GainsIn : Rules → ℕ → Held → Held → Type 0
GainsIn rules moment old new =
    (setting : Setting) (f : Stamps (game setting)) → setting.rules ≡ rules → Shows setting old f → Shows setting new (bring_to (game setting) (holds old) moment f)
