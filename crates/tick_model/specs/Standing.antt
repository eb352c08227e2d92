-- Which universe stands for a base and a history. Rule: docs/RULES.md, "Time and order".
use Rattle.std.specs.Prelude.{◌≡◌, ℕ, List, [], ◌∷◌}
use Rattle.base_ids.specs.declared.cell_id.CellId.{CellId}
use Rattle.request_text.specs.declared.entry.Entry.{Entry}
use Rattle.tick_model.specs.History.{IsLegal}
use Rattle.tick_model.specs.Universe.{Universe}
use Rattle.tick_model.specs.Views.{view}
use Rattle.tick_model.specs.World.{world}

-- Universes are the same if rules, directory, moment and last number agree, and what they have of every cell.
pub record AreSame (one other : Universe) : Type 0 where
  pub setting : one.setting ≡ other.setting
  pub moment : one.moment ≡ other.moment
  pub number : one.state.number ≡ other.state.number
  pub views : (cell : CellId) → view one.setting.cells one.state cell ≡ view other.setting.cells other.state cell

-- the number of the last entry, or the base's
abbrev pub last_number : ℕ → List Entry → ℕ
last_number number [] = number
last_number number (entry ∷ later) = last_number entry.number later

-- the moment of the last entry, or the base's
abbrev pub last_moment : ℕ → List Entry → ℕ
last_moment moment [] = moment
last_moment moment (entry ∷ later) = last_moment entry.moment later

-- A universe stands for a legal history: it has the number and the moment of the last entry, and is what the universe that
-- ticks second by second is then.
pub record Stands (base : Universe) (history : List Entry) (universe : Universe) : Type 0 where
  pub legal : IsLegal base history
  pub moment : universe.moment ≡ last_moment base.moment history
  pub number : universe.state.number ≡ last_number base.state.number history
  pub made : AreSame universe (world base history universe.moment)
