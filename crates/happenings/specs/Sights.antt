-- What cells that are held tell of themselves.
use Rattle.std.specs.Prelude.{◌≡◌, ◌&&◌, ℕ, List, [], ◌∷◌, ◌++◌, Bool, true, false, nat_le, Option, None, Some, map, option_map}
use Rattle.std.specs.List.{list_any}
use Rattle.account_cell.specs.declared.research_item.ResearchItem.{ResearchItem}
use Rattle.base_ids.specs.Cells.{same_cell}
use Rattle.closure.specs.Lists.{has}
use Rattle.std.specs.BTreeMap.{keys}
use Rattle.base_ids.specs.declared.cell_id.CellId.{CellId}
use Rattle.base_ids.specs.declared.cell_id.CellId.TheVariants.{Account, Planet}
use Rattle.base_ids.specs.declared.player.Player.{Player}
use Rattle.tick_model.specs.Sending.{belongs_out, fleet_of}
use Rattle.tick_model.specs.Universe.{Fleet}
use Rattle.tick_model.specs.Views.{View}
use Rattle.happenings.specs.Held.{held_at}
use Rattle.happenings.specs.declared.held.Held.{Held}

-- what is seen of a cell, if it is held
abbrev pub sees_held : Held → CellId → Option View
sees_held held cell = option_map (λ stand. stand.seen) (held_at held cell)

-- these are the cells of the player's fleet that flies out, among these fleets; or there is none
abbrev pub AreFlownOf : List Fleet → Player → ℕ → Option (List CellId) → Type 0
AreFlownOf fleets player number None = (cell : CellId) → belongs_out cell (fleet_of player number fleets) ≡ false
AreFlownOf fleets player number (Some cells) = (has cells (Account player) ≡ true) × ((cell : CellId) → has cells cell ≡ belongs_out cell (fleet_of player number fleets))

-- the names under which cells are held: the accounts, then the planets
abbrev pub names_held : Held → List CellId
names_held held = map Account (keys held.accounts) ++ map Planet (keys held.planets)

-- a planet is to pay an item that waits, and the first item of these is done by a moment
abbrev pub is_payer_by : ℕ → List ResearchItem → CellId → Bool
is_payer_by moment [] cell = false
is_payer_by moment (first ∷ waiting) cell = nat_le first.second moment && list_any (λ item. same_cell (Planet item.at) cell) waiting

-- these are all such planets
abbrev pub AreAllPayers : ℕ → List ResearchItem → List CellId → Type 0
AreAllPayers moment items cells = (cell : CellId) → has cells cell ≡ is_payer_by moment items cell
