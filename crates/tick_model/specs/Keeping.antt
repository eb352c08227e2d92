-- The universe whose cells stand at seconds of their own: what holds of it after a legal history, and what an entry makes of
-- it. Rule: docs/RULES.md, "Time and order".
use Rattle.std.specs.Prelude.{◌≡◌, ℕ, ◌+◌, ◌≤◌, Bool, true, not, List, [], ◌∷◌, ◌++◌, codes}
use Rattle.base_ids.specs.declared.cell_id.CellId.{CellId}
use Rattle.request_text.specs.declared.entry.Entry.{Entry}
use Rattle.reply_text.specs.Words.{line}
use Rattle.laziness.specs.Closing.{IsLeast}
use Rattle.laziness.specs.Laws.{IsClosed, IsReady}
use Rattle.laziness.specs.Lazy.{lazily, lazy, prepared, touched}
use Rattle.laziness.specs.Stamps.{AgreeStamped, IsTimely, Stamps}
use Rattle.laziness.specs.Theorems.{CanBring}
use Rattle.laziness.specs.Touch.{last_touch}
use Rattle.laziness.specs.World.{IsBase}
use Rattle.tick_model.specs.Dump.{cells_text, dump_text}
use Rattle.tick_model.specs.Game.{game}
use Rattle.tick_model.specs.Rules.{KeepsRules}
use Rattle.tick_model.specs.Standing.{last_moment, last_number}
use Rattle.tick_model.specs.Step.{step}
use Rattle.tick_model.specs.Universe.{Setting, Universe}
use Rattle.tick_model.specs.Views.{view}
use Rattle.tick_model.specs.World.{base_of, reply, world}

-- a universe that histories can start from: it keeps the rules, and owes nothing by its moment
abbrev pub IsFounded : Universe → Type 0
IsFounded base = IsBase (game base.setting) (base_of base)

-- the universe after a history, of which each entry brought the cells that it touched to its moment, and no others
abbrev pub lazily_at : (base : Universe) → List Entry → Stamps (game base.setting)
lazily_at base history = lazy (game base.setting) (base_of base) history

-- the cells that an entry touches after a history
abbrev pub touched_at : Universe → List Entry → Entry → CellId → Bool
touched_at base history entry = touched (game base.setting) (lazily_at base history) entry

-- the universe in which they are brought to the entry's moment
abbrev pub prepared_at : (base : Universe) → List Entry → Entry → Stamps (game base.setting)
prepared_at base history entry = prepared (game base.setting) entry (lazily_at base history)

-- the text of all cells of the directory, each at the second at which it stands, and a line `.`
abbrev pub stamps_text : (setting : Setting) → Stamps (game setting) → List ℕ
stamps_text setting stamps =
    cells_text setting stamps.at (view setting.cells stamps.universe) setting.cells ++ line (codes "." ∷ [])

-- What holds after a legal history.
pub record KeepsHistory (base : Universe) (history : List Entry) : Type 0 where
  -- each cell stands at its last touch
  pub second : (cell : CellId) → (lazily_at base history).at cell ≡ last_touch (game base.setting) (base_of base) history cell
  -- as the universe that ticks had it there
  pub seen : (cell : CellId) → view base.setting.cells (lazily_at base history).universe cell ≡ view base.setting.cells (world base history ((lazily_at base history).at cell)).state cell
  -- so it is what a dump shows
  pub dump : dump_text base history ≡ stamps_text base.setting (lazily_at base history)
  -- the last number is that of the last entry
  pub number : (lazily_at base history).universe.number ≡ last_number base.state.number history
  -- the rules are kept
  pub fine : KeepsRules base.setting (lazily_at base history).universe
  -- no cell stands later than the last entry, or than an event that needs it
  pub behind : (cell : CellId) → (lazily_at base history).at cell ≤ last_moment base.moment history
  pub timely : IsTimely (game base.setting) (lazily_at base history)
  -- a closed set of cells can be brought to any second that is no earlier than the last entry
  pub can_bring : (S : CellId → Bool) (second : ℕ) → last_moment base.moment history ≤ second
      → IsClosed (game base.setting) (view base.setting.cells (lazily_at base history).universe) second S → CanBring (game base.setting) S second (lazily_at base history)

-- What holds of an entry that may follow a history.
pub record AnswersEntry (base : Universe) (history : List Entry) (entry : Entry) : Type 0 where
  -- it touches the least closed set that has what it asks for
  pub least : IsLeast (game base.setting) (view base.setting.cells (lazily_at base history).universe) entry.moment entry (touched_at base history entry)
  -- which can be brought to its moment, where its request can act
  pub can_bring : CanBring (game base.setting) (touched_at base history entry) entry.moment (lazily_at base history)
  pub ready : IsReady (game base.setting) (touched_at base history entry) entry.moment entry (prepared_at base history entry).universe
  -- it takes the next number
  pub number : entry.number ≡ (prepared_at base history entry).universe.number + 1
  -- the reply there is the one of the universe that ticks
  pub replied : (step base.setting entry.player entry.req entry.moment (prepared_at base history entry).universe).reply ≡ reply base history entry
  -- the universe after it is one more step of the one before: what its request makes there
  pub next : lazily_at base (history ++ entry ∷ []) ≡ lazily (game base.setting) entry (lazily_at base history)
  pub made : (lazily_at base (history ++ entry ∷ [])).universe ≡ (step base.setting entry.player entry.req entry.moment (prepared_at base history entry).universe).state
  -- the cells that it touched stand at its moment
  pub stamped : (cell : CellId) → touched_at base history entry cell ≡ true → (lazily_at base (history ++ entry ∷ [])).at cell ≡ entry.moment
  -- all others are as before, at their seconds
  pub untouched : AgreeStamped (game base.setting) (λ cell. not (touched_at base history entry cell)) (lazily_at base (history ++ entry ∷ [])) (lazily_at base history)
