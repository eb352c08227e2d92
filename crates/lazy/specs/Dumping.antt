-- The text of cells as they are held. Rule: docs/PROTOCOL.md, "The dump".
use Rattle.std.specs.Prelude.{ℕ, List, [], ◌++◌, Option, None, Some}
use Rattle.std.specs.List.{flat_map}
use Rattle.base_ids.specs.declared.cell_id.CellId.{CellId}
use Rattle.base_ids.specs.declared.cell_id.CellId.TheVariants.{Planet}
use Rattle.closure.specs.declared.spot.Spot.{Spot}
use Rattle.happenings.specs.Held.{Stand, held_at}
use Rattle.happenings.specs.declared.held.Held.{Held}
use Rattle.tick_model.specs.Dump.{cell_line, cell_text}
use Rattle.tick_model.specs.Universe.{Setting}

-- the name of the cell at a place
abbrev pub place_of : Spot → CellId
place_of spot = Planet spot.at

-- the lines of a cell, if it is held
abbrev pub stand_text : Setting → CellId → Option Stand → List ℕ
stand_text setting cell None = []
stand_text setting cell (Some stand) = cell_line cell stand.second ++ cell_text setting cell stand.seen stand.seen.own

-- the lines of these cells
abbrev pub held_text : Setting → Held → List CellId → List ℕ
held_text setting held cells = flat_map (λ cell. stand_text setting cell (held_at held cell)) cells
