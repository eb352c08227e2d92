-- A fleet that joins those of the cells to which it belongs. Rule: docs/RULES.md, "Fleets".
use Rattle.std.specs.Prelude.{◌≡◌, ◌++◌, [], ◌∷◌, filter, option_map, if◌then◌else◌}
use Rattle.base_ids.specs.Cells.{same_cell}
use Rattle.base_ids.specs.declared.cell_id.CellId.{CellId}
use Rattle.tick_model.specs.Universe.{Fleet}
use Rattle.tick_model.specs.Views.{belongs}
use Rattle.happenings.specs.Held.{Stand, held_at}
use Rattle.happenings.specs.declared.held.Held.{Held}

-- a fleet is the last one of a cell, if it belongs to it
abbrev pub joined_stand : Fleet → CellId → Stand → Stand
joined_stand fleet cell stand = record stand { seen = record stand.seen { fleets = stand.seen.fleets ++ filter (belongs cell) (fleet ∷ []) } }

-- a fleet has joined those of each cell that is held
abbrev pub Joins : Fleet → Held → Held → Type 0
Joins fleet old new = (cell : CellId) → held_at new cell ≡ option_map (joined_stand fleet cell) (held_at old cell)

-- it has joined those of one cell, if that is held
abbrev pub appended : Fleet → Stand → Stand
appended fleet stand = record stand { seen = record stand.seen { fleets = stand.seen.fleets ++ fleet ∷ [] } }

abbrev pub JoinsAt : CellId → Fleet → Held → Held → Type 0
JoinsAt name fleet old new = (cell : CellId) → held_at new cell ≡ (if same_cell name cell then option_map (appended fleet) (held_at old cell) else held_at old cell)
