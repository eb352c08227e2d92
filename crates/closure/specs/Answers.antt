-- What is answered about the cells that a request needs.
use Rattle.std.specs.Prelude.{ℕ, List, Option}
use Rattle.base_ids.specs.declared.cell_id.CellId.{CellId}
use Rattle.tick_model.specs.Views.{View}
use Rattle.closure.specs.Closure.{AreMissing, IsLeastClosed}
use Rattle.closure.specs.declared.outcome.Needed.{Needed}
use Rattle.closure.specs.declared.outcome.Needed.TheVariants.{Closed, Missing}

-- the cells are the least closed set; or these of it aren't held
abbrev pub IsAnswered : (CellId → Option View) → List CellId → ℕ → Needed → Type 0
IsAnswered sees asked moment (Closed cells) = IsLeastClosed sees asked moment cells
IsAnswered sees asked moment (Missing cells) = AreMissing sees asked moment cells
