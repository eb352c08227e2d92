-- A small history for two callers. Each of its entries touches the accounts of both.
use Rattle.std.specs.Prelude.{◌≡◌, ℕ, ◌+◌, List, [], ◌∷◌, ◌++◌, ◌||◌, length, if◌then◌else◌}
use Rattle.base_ids.specs.Cells.{same_cell}
use Rattle.base_ids.specs.declared.cell_id.CellId.{CellId}
use Rattle.base_ids.specs.declared.cell_id.CellId.TheVariants.{Account}
use Rattle.base_ids.specs.declared.player.Player.{Player}
use Rattle.request_text.specs.declared.entry.Entry.{Entry}
use Rattle.fronts.specs.declared.view.View.{View}
use Rattle.fronts.specs.Start.{Start}
use Rattle.fronts.specs.Views.{own_calls}

abbrev pub pair : Player → Player → Start
pair first second = record {
  number = 0;
  moment = 0;
  capacity = 1000;
  found = [];
  cells = Account first ∷ Account second ∷ [];
  touches = λ before entry cell. same_cell (Account first) cell || same_cell (Account second) cell;
}

-- how many entries touch a cell, after those before them
abbrev pub hits : Start → CellId → List Entry → List Entry → ℕ
hits start cell before [] = 0
hits start cell before (entry ∷ later) = (if start.touches before entry cell then 1 else 0) + hits start cell (before ++ entry ∷ []) later

-- the moment of the last entry, or this one if there is none
abbrev pub last_moment : ℕ → List Entry → ℕ
last_moment moment [] = moment
last_moment moment (entry ∷ later) = last_moment entry.moment later

-- what a pass keeps while it appends
pub record IsSamePass (old new : View) : Type 0 where
  pub number : new.number ≡ old.number
  pub next : new.next ≡ old.next

-- it has called so much more
pub record HasCalled (more : ℕ) (old new : View) : Type 0 where
  pub same : IsSamePass old new
  pub calls : length (own_calls new) ≡ length (own_calls old) + more
