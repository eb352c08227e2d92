-- Which cells of the directory a request names.
use Rattle.std.specs.Prelude.{◌≡◌, List, Bool, ◌&&◌, ◌||◌}
use Rattle.base_ids.specs.declared.cell_id.CellId.{CellId}
use Rattle.base_ids.specs.declared.fleet_number.FleetNumber.{FleetNumber}
use Rattle.base_ids.specs.declared.player.Player.{Player}
use Rattle.request_text.specs.declared.request.Request.{Request}
use Rattle.request_text.specs.declared.request.Request.TheVariants.{Recall}
use Rattle.tick_model.specs.Requests.{names}
use Rattle.tick_model.specs.Views.{View}
use Rattle.closure.specs.Directory.{cells_of}
use Rattle.closure.specs.Lists.{has}
use Rattle.closure.specs.declared.places.Places.{Places}

-- a list gains just those cells of the directory that pass a test
abbrev pub AddsListed : Places → (CellId → Bool) → List CellId → List CellId → Type 0
AddsListed places test old new = (cell : CellId) → has new cell ≡ (has old cell || (has (cells_of places) cell && test cell))

-- it gains those that a request names, if that is no recall: these it names whatever is seen
abbrev pub AddsNamed : Places → Request → List CellId → List CellId → Type 0
AddsNamed places req old new =
    ((number : FleetNumber) → req ≡ Recall number → ⊥) → (seen : CellId → View) (player : Player) → AddsListed places (names seen player req) old new
