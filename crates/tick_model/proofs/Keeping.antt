-- What the theorems of laziness say of the game.
use Rattle.std.proofs.Common.{◌≡◌, ℕ, ◌+◌, ◌≤◌, List, [], ◌∷◌, ◌++◌, codes, arith, ap, ◌∙◌, sym}
use Rattle.std.proofs.Math.Path.{fun_ext}
use Rattle.base_ids.specs.declared.cell_id.CellId.{CellId}
use Rattle.request_text.specs.declared.entry.Entry.{Entry}
use Rattle.reply_text.specs.Words.{line}
use Rattle.laziness.specs.Stamps.{Stamps}
use Rattle.laziness.specs.Theorems.{CellsDecide, EntriesTouchTheirClosure, LazyEqualsTicking, SecondsEnd}
use Rattle.laziness.specs.Touch.{last_touch}
use Rattle.laziness.specs.World.{InOrder, last_moment as last_moment_of, world as world_of}
use Rattle.laziness.proofs.Closures.{closing-least}
use Rattle.laziness.proofs.Histories.{Keeps, keeps}
use Rattle.laziness.proofs.Holding.{can-good}
use Rattle.laziness.proofs.Preparing.{prepares}
use Rattle.laziness.proofs.Theorems.{cells-decide, entries-touch, lazy-equals-ticking, seconds-end}
use Rattle.tick_model.specs.Dump.{cells_text, dump_text}
use Rattle.tick_model.specs.Game.{game}
use Rattle.tick_model.specs.History.{MayFollow, IsLegal}
use Rattle.tick_model.specs.Keeping.{IsFounded, lazily_at, touched_at, stamps_text, KeepsHistory, AnswersEntry}
use Rattle.tick_model.specs.Standing.{last_moment, last_number}
use Rattle.tick_model.specs.Universe.{Setting, Universe}
use Rattle.tick_model.specs.Views.{view}
use Rattle.tick_model.specs.World.{base_of, world}
use Rattle.tick_model.proofs.GameLaws.{game_laws}
use Rattle.tick_model.proofs.Worlds.{follows-later, last_moment-is, legal-more, legal-order, world-number}

-- the theorems, at the game
pub game_lazy : (setting : Setting) → LazyEqualsTicking (game setting)
game_lazy setting = lazy-equals-ticking (game setting) (game_laws setting)

pub game_touches : (setting : Setting) → EntriesTouchTheirClosure (game setting)
game_touches setting = entries-touch (game setting) (game_laws setting)

pub game_cells : (setting : Setting) → CellsDecide (game setting)
game_cells setting = cells-decide (game setting) (game_laws setting)

pub game_seconds : (setting : Setting) → SecondsEnd (game setting)
game_seconds setting = seconds-end (game setting) (game_laws setting)

in-order : (base : Universe) (history : List Entry) → IsLegal base history → InOrder (game base.setting) base.moment history
in-order base history legal = legal-order base.setting base.state.number base.moment history legal

kept : (base : Universe) (history : List Entry) → IsFounded base → IsLegal base history
    → Keeps (game base.setting) (base_of base) history (last_touch (game base.setting) (base_of base) history) (lazily_at base history)
kept base history founded legal = keeps (game base.setting) (game_laws base.setting) (base_of base) history founded (in-order base history legal)

-- the dump shows the cells as they stand
dump-is : (base : Universe) (history : List Entry) → IsFounded base → IsLegal base history → dump_text base history ≡ stamps_text base.setting (lazily_at base history)
dump-is base history founded legal =
    let k = kept base history founded legal in
    let f = lazily_at base history in
    let seconds : last_touch (game base.setting) (base_of base) history ≡ f.at = sym (fun_ext k.second) in
    let text : (CellId → ℕ) → List ℕ =
    λ at. cells_text base.setting at (λ x. view base.setting.cells (world_of (game base.setting) (base_of base) history (at x)) x) base.setting.cells ++ line (codes "." ∷ []) in
    let seen : (λ x. view base.setting.cells (world_of (game base.setting) (base_of base) history (f.at x)) x) ≡ view base.setting.cells f.universe = sym (fun_ext k.view) in
    ap text seconds ∙ ap (λ views. cells_text base.setting f.at views base.setting.cells ++ line (codes "." ∷ [])) seen

-- after every legal history the lazy universe stands for the ticking one
pub keeps-history : (base : Universe) (history : List Entry) → IsFounded base → IsLegal base history → KeepsHistory base history
keeps-history base history founded legal =
    let M = game base.setting in
    let k = kept base history founded legal in
    let end : last_moment_of M base.moment history ≡ last_moment base.moment history = last_moment-is base.setting base.moment history in
    let late : last_moment base.moment history ≤ last_moment_of M base.moment history = omega (arith, end) in
    record {
      second = k.second;
      seen = k.view;
      dump = dump-is base history founded legal;
      number = k.follows.count ∙ world-number base history (last_moment_of M base.moment history) legal late;
      fine = k.follows.fine;
      behind = λ cell. let before : (lazily_at base history).at cell ≤ last_moment_of M base.moment history = k.follows.behind cell in omega (arith, before, end);
      timely = k.follows.timely;
      can_bring = λ S second later closed.
          (game_cells base.setting).can_bring (base_of base) history S second founded (in-order base history legal) (omega (arith, later, end)) closed;
    }

-- an entry that may follow is answered as in the ticking universe
pub answers-entry : (base : Universe) (history : List Entry) (entry : Entry) → IsFounded base → IsLegal base history
    → MayFollow (last_number base.state.number history) (last_moment base.moment history) entry → AnswersEntry base history entry
answers-entry base history entry founded legal follows =
    let M = game base.setting in
    let L = game_laws base.setting in
    let f = lazily_at base history in
    let S = touched_at base history entry in
    let here = keeps-history base history founded legal in
    let later : last_moment base.moment history ≤ entry.moment = follows-later (last_number base.state.number history) (last_moment base.moment history) entry follows in
    let order = in-order base (history ++ entry ∷ []) (legal-more base.state.number base.moment history entry legal follows) in
    let least = closing-least M L f.universe entry.moment entry here.fine in
    let can = here.can_bring S entry.moment later least.closed in
    let count = (prepares M L S entry.moment f (can-good M L S entry.moment f can)).count in
    let touches = game_touches base.setting in
    record {
      least = least;
      can_bring = can;
      ready = (game_cells base.setting).ready S entry.moment entry f can least.covers;
      number = follows.next ∙ ap (λ n. n + 1) (sym (count ∙ here.number));
      replied = (game_lazy base.setting).replies (base_of base) history entry founded order;
      next = touches.steps (base_of base) history entry;
      made = ap (λ (g : Stamps M). g.universe) (touches.steps (base_of base) history entry);
      stamped = touches.stamped (base_of base) history entry founded order;
      untouched = touches.untouched (base_of base) history entry founded order;
    }

-- histories can start anew from the ticking universe, at any moment that is no earlier than the last entry
pub founded-later : (base : Universe) (history : List Entry) (moment : ℕ) → IsFounded base → IsLegal base history → last_moment base.moment history ≤ moment → IsFounded (world base history moment)
founded-later base history moment founded legal later =
    let end : last_moment_of (game base.setting) base.moment history ≡ last_moment base.moment history = last_moment-is base.setting base.moment history in
    (game_seconds base.setting).worlds (base_of base) history moment founded (in-order base history legal) (omega (arith, later, end))
