-- The text of a whole universe: every cell as it was at its last touch. Rule: docs/PROTOCOL.md, "The dump".
use Rattle.std.specs.Prelude.{ℕ, List, [], ◌∷◌, ◌++◌, codes, filter, not}
use Rattle.std.specs.Fmt.{decimal}
use Rattle.base_ids.specs.Cells.{same_player}
use Rattle.base_ids.specs.Text.{coord_text, player_text}
use Rattle.base_ids.specs.declared.player.Player.{Player}
use Rattle.base_ids.specs.declared.cell_id.CellId.{CellId}
use Rattle.base_ids.specs.declared.cell_id.CellId.TheVariants.{Account, Planet}
use Rattle.request_text.specs.declared.entry.Entry.{Entry}
use Rattle.reply_text.specs.Words.{line}
use Rattle.laziness.specs.Touch.{last_touch, seen_at}
use Rattle.tick_model.specs.Game.{game}
use Rattle.tick_model.specs.Lines.{account_text, fleet_lines, own_fleets, planet_text}
use Rattle.tick_model.specs.Universe.{of_account, of_planet, Fleet, Own, Setting, Universe}
use Rattle.tick_model.specs.Views.{View}
use Rattle.tick_model.specs.World.{base_of}

-- `cell account K at SECOND` or `cell planet C at SECOND`
abbrev pub cell_line : CellId → ℕ → List ℕ
cell_line (Account player) second = line (codes "cell" ∷ codes "account" ∷ player_text player ∷ codes "at" ∷ decimal second ∷ [])
cell_line (Planet at) second = line (codes "cell" ∷ codes "planet" ∷ coord_text at ∷ codes "at" ∷ decimal second ∷ [])

-- `link F SECOND`: a fleet that belongs to a cell, and the second at which it arrives or is back
abbrev pub link_line : Fleet → List ℕ
link_line fleet = line (codes "link" ∷ decimal fleet.number ∷ decimal fleet.second ∷ [])

abbrev pub link_lines : List Fleet → List ℕ
link_lines [] = []
link_lines (fleet ∷ later) = link_line fleet ++ link_lines later

-- the fleets of other players
abbrev pub other_fleets : Player → List Fleet → List Fleet
other_fleets player fleets = filter (λ fleet. not (same_player fleet.owner player)) fleets

-- the lines of a cell, by what is seen of it: an account shows its own fleets, and a link for each other fleet that belongs to it
abbrev pub cell_text : Setting → CellId → View → Own → List ℕ
cell_text setting (Account player) seen (of_account account) =
    account_text player account seen ++ fleet_lines (own_fleets player seen.fleets) ++ link_lines (other_fleets player seen.fleets)
cell_text setting (Planet at) seen (of_planet planet) =
    planet_text setting.rules.speed at planet seen.queue ++ link_lines seen.fleets
cell_text setting _ seen own = []

-- these cells, each as it is seen at a second of its own
abbrev pub cells_text : Setting → (CellId → ℕ) → (CellId → View) → List CellId → List ℕ
cells_text setting seconds seen [] = []
cells_text setting seconds seen (cell ∷ later) =
    cell_line cell (seconds cell) ++ cell_text setting cell (seen cell) (seen cell).own ++ cells_text setting seconds seen later

-- all cells of the directory at their last touches in a history, and a line `.`
abbrev pub dump_text : Universe → List Entry → List ℕ
dump_text base history =
    let seconds = last_touch (game base.setting) (base_of base) history in
    cells_text base.setting seconds (seen_at (game base.setting) (base_of base) history seconds) base.setting.cells ++ line (codes "." ∷ [])
