-- All cells of a universe that ticks, which stand at one and the same moment. Rule: docs/RULES.md, "Time and order".
use Rattle.std.specs.Prelude.{◌≡◌, ℕ, ◌≤◌, List}
use Rattle.base_ids.specs.declared.cell_id.CellId.{CellId}
use Rattle.request_text.specs.declared.entry.Entry.{Entry}
use Rattle.laziness.specs.Stamps.{Stamps}
use Rattle.happenings.specs.Held.{IsNamed, Shows, holds}
use Rattle.happenings.specs.declared.held.Held.{Held}
use Rattle.tick_model.specs.Game.{game}
use Rattle.tick_model.specs.History.{IsLegal}
use Rattle.tick_model.specs.Keeping.{IsFounded}
use Rattle.tick_model.specs.Requests.{is_listed}
use Rattle.tick_model.specs.Standing.{last_moment}
use Rattle.tick_model.specs.Universe.{Universe}
use Rattle.tick_model.specs.World.{world}
use Rattle.tick_model.specs.declared.rules.Rules.{Rules}

-- the universe that ticks, after a history at a moment, at which each of its cells stands
abbrev pub ticking_at : (base : Universe) → List Entry → ℕ → Stamps (game base.setting)
ticking_at base history moment = record { universe = (world base history moment).state; at = λ cell. moment }

-- These are all cells of the directory, each as the universe that ticks has it after a legal history at a moment, which is no
-- earlier than the last entry.
pub record AreWorld (base : Universe) (history : List Entry) (rules : Rules) (moment : ℕ) (cells : Held) : Type 0 where
  pub founded : IsFounded base
  pub legal : IsLegal base history
  pub since : last_moment base.moment history ≤ moment
  pub rules_are : base.setting.rules ≡ rules
  pub held : (cell : CellId) → holds cells cell ≡ is_listed base.setting.cells cell
  pub named : IsNamed cells
  pub shows : Shows base.setting cells (ticking_at base history moment)

-- they are so for some history
abbrev pub AreSomeWorld : Rules → ℕ → Held → Type 0
AreSomeWorld rules moment cells = (base : Universe) × (history : List Entry) × AreWorld base history rules moment cells

-- Seconds have passed, and nothing was asked: for whatever history the cells were all cells at a moment, they now are at a later one.
abbrev pub Pass : Rules → ℕ → Held → ℕ → Held → Type 0
Pass rules from old to new =
    (base : Universe) (history : List Entry) → AreWorld base history rules from old → AreWorld base history rules to new
