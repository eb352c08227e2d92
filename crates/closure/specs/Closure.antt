-- Which cells can't be done without: those that are asked for, those without which these can't be brought to a moment, and so on.
use Rattle.std.specs.Prelude.{◌≡◌, ◌<◌, ℕ, List, Bool, true, Option, None, Some, IsSome, length}
use Rattle.base_ids.specs.declared.cell_id.CellId.{CellId}
use Rattle.tick_model.specs.Game.{brings}
use Rattle.tick_model.specs.Views.{View}
use Rattle.closure.specs.Lists.{AreDistinct, has}

-- what is known of the cells that a cell brings: nothing if it isn't held; else exactly these
abbrev pub AreBrought : Option View → ℕ → Option (List CellId) → Type 0
AreBrought None moment None = Unit {0}
AreBrought None moment (Some cells) = ⊥
AreBrought (Some seen) moment None = ⊥
AreBrought (Some seen) moment (Some cells) = (cell : CellId) → has cells cell ≡ brings seen moment cell

-- A set of cells is enough: it has the cells that are asked for, and all that its own cells bring, as far as these are held.
pub record IsEnough (sees : CellId → Option View) (asked : List CellId) (moment : ℕ) (set : CellId → Bool) : Type 0 where
  pub covers : (cell : CellId) → has asked cell ≡ true → set cell ≡ true
  pub closed : (cell other : CellId) (seen : View) → set cell ≡ true → sees cell ≡ Some seen → brings seen moment other ≡ true → set other ≡ true

-- a cell is in every set that is enough
abbrev pub IsNeeded : (CellId → Option View) → List CellId → ℕ → CellId → Type 0
IsNeeded sees asked moment cell = (set : CellId → Bool) → IsEnough sees asked moment set → set cell ≡ true

-- These cells are enough, all of them are held, and none can be done without: they are the least closed set. None comes twice.
pub record IsLeastClosed (sees : CellId → Option View) (asked : List CellId) (moment : ℕ) (cells : List CellId) : Type 0 where
  pub enough : IsEnough sees asked moment (has cells)
  pub held : (cell : CellId) → has cells cell ≡ true → IsSome (sees cell)
  pub needed : (cell : CellId) → has cells cell ≡ true → IsNeeded sees asked moment cell
  pub distinct : AreDistinct cells

-- At least one cell is missing: it can't be done without, and isn't held. None comes twice.
pub record AreMissing (sees : CellId → Option View) (asked : List CellId) (moment : ℕ) (cells : List CellId) : Type 0 where
  pub some : 0 < length cells
  pub lost : (cell : CellId) → has cells cell ≡ true → sees cell ≡ None
  pub needed : (cell : CellId) → has cells cell ≡ true → IsNeeded sees asked moment cell
  pub distinct : AreDistinct cells
