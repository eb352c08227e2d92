-- The cells of a fleet that flies out, as far as its owner's account shows it.
use Rattle.std.specs.Prelude.{◌≡◌, ℕ, List, Bool, true, false, Option, None, Some}
use Rattle.base_ids.specs.declared.cell_id.CellId.{CellId}
use Rattle.base_ids.specs.declared.cell_id.CellId.TheVariants.{Account}
use Rattle.base_ids.specs.declared.player.Player.{Player}
use Rattle.tick_model.specs.Sending.{belongs_out, fleet_of}
use Rattle.tick_model.specs.Views.{View}
use Rattle.closure.specs.Lists.{has}

-- a cell is one of those of the player's fleet, by what is seen of the player's account
abbrev pub is_flown : Option View → Player → ℕ → CellId → Bool
is_flown None player number cell = false
is_flown (Some seen) player number cell = belongs_out cell (fleet_of player number seen.fleets)

-- Exactly these cells are, the account among them; or none is.
abbrev pub AreFlown : Option View → Player → ℕ → Option (List CellId) → Type 0
AreFlown sight player number None = (cell : CellId) → is_flown sight player number cell ≡ false
AreFlown sight player number (Some cells) = (has cells (Account player) ≡ true) × ((cell : CellId) → has cells cell ≡ is_flown sight player number cell)
