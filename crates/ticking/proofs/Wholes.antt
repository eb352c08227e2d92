-- All cells of a universe: what is due among them, and that they can be brought to a moment.
use Rattle.std.proofs.Common.{◌≡◌, ℕ, ◌≤◌, Bool, true, false, cond, List, [], ◌∷◌, ◌++◌, Option, refl, ap, ◌∙◌, sym}
use Rattle.std.proofs.Math.Path.{fun_ext}
use Rattle.std.specs.Prelude.{◌||◌}
use Rattle.base_ids.specs.Cells.{same_cell}
use Rattle.base_ids.specs.declared.cell_id.CellId.{CellId}
use Rattle.closure.proofs.Sameness.{same_cell_itself}
use Rattle.laziness.specs.Laws.{IsClosed, Stands}
use Rattle.laziness.specs.Second.{everything, settled}
use Rattle.laziness.specs.Stamps.{Stamps, event_acts, happened}
use Rattle.laziness.specs.Theorems.{CanBring}
use Rattle.lazy.proofs.Least.{in-listed}
use Rattle.tick_model.proofs.GameLaws.{game_laws}
use Rattle.tick_model.specs.Events.{Event, due_by, due_events, first_event, next_event, second_of}
use Rattle.tick_model.specs.Game.{game}
use Rattle.tick_model.specs.Requests.{is_listed}
use Rattle.tick_model.specs.Rules.{KeepsRules}
use Rattle.tick_model.specs.Universe.{Setting, State}
use Rattle.tick_model.specs.Views.{View, view}

either : (a b : Bool) → b ≡ true → (a || b) ≡ true
either true b is = refl
either false b is = is

-- the same is due among sets that have the same cells of a directory
due-alike : (some other : CellId → Bool) (second : ℕ) (seen : CellId → View) (cells : List CellId) → ((cell : CellId) → is_listed cells cell ≡ true → some cell ≡ other cell)
    → due_events some second seen cells ≡ due_events other second seen cells
due-alike some other second seen [] same = refl
due-alike some other second seen (cell ∷ cells) same =
    let here = same cell (ap (λ b. b || is_listed cells cell) (same_cell_itself cell)) in
    let later = due-alike some other second seen cells (λ x is. same x (either (same_cell x cell) (is_listed cells x) is)) in
    λ i. cond (here i) (due_by second cell (seen cell)) [] ++ later i

module _ (setting : Setting) (S : CellId → Bool) (all : (cell : CellId) → S cell ≡ is_listed setting.cells cell) where
  -- so all cells of the directory are as good as all cells
  next-alike : (t : ℕ) (state : State) → next_event setting (everything (game setting)) t state ≡ next_event setting S t state
  next-alike t state =
      ap first_event (due-alike (everything (game setting)) S t (view setting.cells state) setting.cells (λ cell is. sym (all cell ∙ is)))

  pub happened-alike : (t : ℕ) (f : Stamps (game setting)) → happened (game setting) (everything (game setting)) t f ≡ happened (game setting) S t f
  unfolding happened
  happened-alike t f =
      let M = game setting in
      let same : (λ (g : Stamps (game setting)). next_event setting (everything (game setting)) t g.universe) ≡ (λ (g : Stamps (game setting)). next_event setting S t g.universe) =
      fun_ext (λ g. next-alike t g.universe) in
      ap (λ (next : Stamps (game setting) → Option Event). settled next (event_acts M) (M.measure f.universe) f) same

  -- they have whatever one of them brings
  pub closed-whole : (t : ℕ) (state : State) → KeepsRules setting state → IsClosed (game setting) (view setting.cells state) t S
  closed-whole t state fine x inside y brings = all y ∙ in-listed setting.cells y ((game_laws setting).brought_listed state x t y fine brings)

  -- they can be brought from a second before which nothing is due
  pub can-bring : (s t : ℕ) (state : State) → KeepsRules setting state → ((e : Event) → Stands (game setting) state e → s ≤ second_of e) → s ≤ t
      → CanBring (game setting) S t (record { universe = state; at = λ cell. s })
  can-bring s t state fine due later = record {
    fine = fine;
    timely = λ e stands x has. due e stands;
    closed = closed-whole t state fine;
    behind = λ x inside. later;
  }
