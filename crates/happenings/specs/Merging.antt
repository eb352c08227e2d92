-- Cells that are put in place of those of their names.
use Rattle.std.specs.Prelude.{◌≡◌, if◌then◌else◌}
use Rattle.base_ids.specs.declared.cell_id.CellId.{CellId}
use Rattle.happenings.specs.Held.{held_at, holds}
use Rattle.happenings.specs.declared.held.Held.{Held}

-- the cells of one are held anew, and all others as before
abbrev pub Merges : Held → Held → Held → Type 0
Merges old cells new = (cell : CellId) → held_at new cell ≡ (if holds cells cell then held_at cells cell else held_at old cell)
