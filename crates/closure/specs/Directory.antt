-- The cells of a universe, by its fixed directory, and which of them a request asks for.
use Rattle.std.specs.Prelude.{◌≡◌, List, [], ◌∷◌, ◌++◌, map, Option, None, Some}
use Rattle.base_ids.specs.declared.fleet_number.FleetNumber.{FleetNumber}
use Rattle.base_ids.specs.declared.player.Player.{Player}
use Rattle.base_ids.specs.declared.cell_id.CellId.{CellId}
use Rattle.base_ids.specs.declared.cell_id.CellId.TheVariants.{Account, Planet}
use Rattle.request_text.specs.declared.request.Request.{Request}
use Rattle.request_text.specs.declared.request.Request.TheVariants.{Recall}
use Rattle.tick_model.specs.Requests.{asked}
use Rattle.tick_model.specs.Views.{View}
use Rattle.closure.specs.Lists.{has}
use Rattle.closure.specs.declared.outcome.Needed.{Needed}
use Rattle.closure.specs.declared.outcome.Needed.TheVariants.{Closed, Missing}
use Rattle.closure.specs.declared.places.Places.{Places}

-- the names of all cells: the players' accounts, then the planets
abbrev pub cells_of : Places → List CellId
cells_of places = map Account places.players.items ++ map (λ spot. Planet spot.at) places.planets.items

-- what is seen of the cells that are held is what is there
abbrev pub ShowsHeld : (CellId → Option View) → (CellId → View) → Type 0
ShowsHeld sees seen = (cell : CellId) (view : View) → sees cell ≡ Some view → seen cell ≡ view

-- These are exactly the cells that a request asks for. Or it is a recall by a player whose account isn't held, and that is missing.
abbrev pub IsAsked : (CellId → Option View) → Places → Player → Request → Needed → Type 0
IsAsked sees places player req (Closed cells) = (seen : CellId → View) → ShowsHeld sees seen → (cell : CellId) → has cells cell ≡ asked (cells_of places) seen player req cell
IsAsked sees places player req (Missing cells) = ((number : FleetNumber) × (req ≡ Recall number)) × (sees (Account player) ≡ None) × (cells ≡ Account player ∷ [])
