-- Lists of cells as sets.
use Rattle.std.specs.Prelude.{◌≡◌, List, [], ◌∷◌, ◌++◌, Bool, false, ◌||◌, if◌then◌else◌, AllPairs}
use Rattle.std.specs.List.{list_any}
use Rattle.base_ids.specs.Cells.{same_cell}
use Rattle.base_ids.specs.declared.cell_id.CellId.{CellId}

-- the cell is one of these
abbrev pub has : List CellId → CellId → Bool
has cells cell = list_any (same_cell cell) cells

-- no cell comes twice
abbrev pub AreDistinct : List CellId → Type 0
AreDistinct cells = AllPairs (λ one other. same_cell one other ≡ false) cells

-- the list with the cell, at its end if it wasn't there
abbrev pub with_cell : List CellId → CellId → List CellId
with_cell cells cell = if has cells cell then cells else cells ++ cell ∷ []

-- The list begins with the first one, and has the cells of both. If no cell comes twice in the first one, none does in this one.
pub record IsUnion (first second all : List CellId) : Type 0 where
  pub more : List CellId
  pub front : all ≡ first ++ more
  pub same : (cell : CellId) → has all cell ≡ (has first cell || has second cell)
  pub distinct : AreDistinct first → AreDistinct all
