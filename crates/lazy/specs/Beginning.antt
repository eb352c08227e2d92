-- What is held of a base. Rule: docs/RULES.md, "Time and order".
use Rattle.std.specs.Prelude.{◌≡◌, List, [], IfSome, filter}
use Rattle.account_cell.specs.declared.account.Account.{Account}
use Rattle.base_bytes.specs.Base.{setting_of, universe_of}
use Rattle.base_bytes.specs.declared.base.Base.{Base}
use Rattle.base_ids.specs.declared.cell_id.CellId.{CellId}
use Rattle.base_ids.specs.declared.player.Player.{Player}
use Rattle.closure.specs.Lists.{has}
use Rattle.closure.specs.declared.spot.Spot.{Spot}
use Rattle.happenings.specs.Held.{IsNamed, Shows, Stand, held_at, holds}
use Rattle.happenings.specs.declared.held.Held.{Held}
use Rattle.planet_cell.specs.declared.planet.Planet.{Planet}
use Rattle.tick_model.specs.Keeping.{lazily_at}
use Rattle.tick_model.specs.Universe.{Fleet}
use Rattle.tick_model.specs.Views.{belongs, view}

-- the player of an account
abbrev pub player_of : Account → Player
player_of account = account.player

-- the place of a planet, and its owner
abbrev pub spot_of : Planet → Spot
spot_of planet = record { at = planet.at; owner = planet.owner }

-- A cell is as it is at the base's moment, but with those fleets alone that belong to it of some.
pub record ShowsWith (base : Base) (fleets : List Fleet) (cell : CellId) (stand : Stand) : Type 0 where
  pub second : stand.second ≡ base.moment
  pub seen : stand.seen ≡ record (view (setting_of base).cells (universe_of base).state cell) { fleets = filter (belongs cell) fleets }

-- The cells of these names are held, and no others, each as it is at the base's moment, but with these fleets alone.
pub record HoldsWith (base : Base) (fleets : List Fleet) (names : List CellId) (cells : Held) : Type 0 where
  pub named : IsNamed cells
  pub held : (cell : CellId) → holds cells cell ≡ has names cell
  pub shows : (cell : CellId) → IfSome (held_at cells cell) (ShowsWith base fleets cell)

-- The cells of these names are held, and no others, each as it is at the base's moment.
pub record HoldsOf (base : Base) (names : List CellId) (cells : Held) : Type 0 where
  pub named : IsNamed cells
  pub held : (cell : CellId) → holds cells cell ≡ has names cell
  pub shows : Shows (setting_of base) cells (lazily_at (universe_of base) [])
