-- The cells of a lazy universe that a request touches. Rule: docs/RULES.md, "Time and order".
use Rattle.std.specs.Prelude.{◌≡◌, ℕ, List, Option, None, if◌then◌else◌}
use Rattle.base_ids.specs.declared.cell_id.CellId.{CellId}
use Rattle.base_ids.specs.declared.player.Player.{Player}
use Rattle.request_text.specs.declared.entry.Entry.{Entry}
use Rattle.request_text.specs.declared.request.Request.{Request}
use Rattle.closure.specs.Directory.{ShowsHeld, cells_of}
use Rattle.closure.specs.Lists.{has}
use Rattle.closure.specs.declared.places.Places.{Places}
use Rattle.happenings.specs.Held.{IsNamed, held_at, holds}
use Rattle.happenings.specs.declared.held.Held.{Held}
use Rattle.tick_model.specs.Keeping.{touched_at}
use Rattle.tick_model.specs.Requests.{asked}
use Rattle.tick_model.specs.Universe.{Universe}
use Rattle.tick_model.specs.Views.{View}
use Rattle.lazy.specs.Keeping.{Keeps}
use Rattle.lazy.specs.declared.universe.LazyUniverse.{LazyUniverse}

-- the cells that a request asks for, by a directory, whatever shows what is seen of the cells that are held
abbrev pub AskedBy : (CellId → Option View) → Places → Player → Request → List CellId → Type 0
AskedBy sees places player req wanted = (seen : CellId → View) → ShowsHeld sees seen → (cell : CellId) → has wanted cell ≡ asked (cells_of places) seen player req cell

-- These cells are just those that a request touches at a moment, each as it stands in the universe.
pub record AreTouched (lazy : LazyUniverse) (player : Player) (req : Request) (moment : ℕ) (cells : Held) : Type 0 where
  pub named : IsNamed cells
  pub copies : (cell : CellId) → held_at cells cell ≡ (if holds cells cell then held_at lazy.cells cell else None)
  pub touched : (base : Universe) (history : List Entry) (entry : Entry) → Keeps base history lazy
      → entry.player ≡ player → entry.req ≡ req → entry.moment ≡ moment → (cell : CellId) → holds cells cell ≡ touched_at base history entry cell
