-- The cells that are needed by what is held are those that an entry touches.
use Rattle.std.proofs.Common.{◌≡◌, ℕ, ◌<◌, Bool, true, false, cond, List, [], ◌∷◌, Option, None, Some, refl, ap, ◌∙◌, sym, subst, arith, inl, inr}
use Rattle.std.specs.Prelude.{IfOk, IfSome, IsSome, is_some, option_map, ◌||◌, ◌&&◌}
use Rattle.std.specs.List.{Contains}
use Rattle.std.specs.declared.result.Result.{Result}
use Rattle.std.specs.declared.result.Result.TheVariants.{Ok, Err}
use Rattle.std.proofs.lemmas.Map.Views.{list_any-from_Contains}
use Rattle.base_ids.specs.Cells.{same_cell}
use Rattle.base_ids.specs.declared.cell_id.CellId.{CellId}
use Rattle.base_ids.specs.declared.cell_id.CellId.TheVariants.{Account}
use Rattle.base_ids.specs.declared.player.Player.{Player}
use Rattle.request_text.specs.declared.entry.Entry.{Entry}
use Rattle.request_text.specs.declared.request.Request.{Request}
use Rattle.laziness.specs.Closing.{IsLeast}
use Rattle.laziness.specs.Stamps.{Stamps}
use Rattle.laziness.proofs.Bringing.{never, test}
use Rattle.laziness.proofs.Closures.{closing-least}
use Rattle.closure.specs.Closure.{AreMissing, IsEnough, IsLeastClosed}
use Rattle.closure.specs.Directory.{cells_of}
use Rattle.closure.specs.Lists.{has}
use Rattle.closure.specs.declared.places.Places.{Places}
use Rattle.closure.proofs.Sameness.{same_cell_itself}
use Rattle.happenings.specs.Held.{IsNamed, Picks, Shows, ShowsCell, Stand, held_at, holds}
use Rattle.happenings.specs.Sights.{sees_held}
use Rattle.happenings.specs.declared.held.Held.{Held}
use Rattle.tick_model.specs.Game.{brings, game}
use Rattle.tick_model.specs.Keeping.{lazily_at, touched_at}
use Rattle.tick_model.specs.Requests.{asked, is_listed, names}
use Rattle.tick_model.specs.Rules.{KeepsRules}
use Rattle.tick_model.specs.Universe.{Setting, Universe}
use Rattle.tick_model.specs.Views.{View, view}
use Rattle.tick_model.proofs.Asked.{asked-in}
use Rattle.tick_model.proofs.GameLaws.{game_laws}
use Rattle.tick_model.proofs.Keeping.{keeps-history}
use Rattle.tick_model.proofs.Lists.{cell-is, cell-itself, cell-turned, fails}
use Rattle.tick_model.proofs.Requesting.{brought_listed}
use Rattle.lazy.specs.Keeping.{Keeps}
use Rattle.lazy.specs.Touching.{AreTouched, AskedBy}
use Rattle.lazy.specs.declared.universe.LazyUniverse.{LazyUniverse}

-- what is in a directory is listed
pub in-listed : (cells : List CellId) (cell : CellId) → Contains cells cell → is_listed cells cell ≡ true
in-listed cells cell found = list_any-from_Contains (record { refl = cell-itself; symm = cell-turned; congr = λ x y z same. ap (λ a. same_cell a z) (cell-is x y same) }) cell cells found

-- a cell that is held shows what the universe has of it
view-at : (seen : View) (found : Option Stand) (v : View) → IfSome found (λ s. s.seen ≡ v) → option_map (λ (s : Stand). s.seen) found ≡ Some seen → seen ≡ v
view-at seen None v shows is = absurd (cc is)
view-at seen (Some stand) v shows is = let same : stand.seen ≡ seen = cc in sym same ∙ shows

sees-view : (found : Option Stand) (v : View) → IfSome found (λ s. s.seen ≡ v) → IsSome (option_map (λ (s : Stand). s.seen) found) → option_map (λ (s : Stand). s.seen) found ≡ Some v
sees-view None v shows is = absurd (cc is)
sees-view (Some stand) v shows is = ap Some shows

held-seen : (found : Option Stand) → is_some found ≡ true → option_map (λ (s : Stand). s.seen) found ≡ None → ⊥
held-seen None held lost = cc
held-seen (Some stand) held lost = cc

only-seen : (setting : Setting) (f : Stamps (game setting)) (cell : CellId) (found : Option Stand) → IfSome found (ShowsCell setting f cell)
    → IfSome found (λ s. s.seen ≡ view setting.cells f.universe cell)
only-seen setting f cell None shows = tt
only-seen setting f cell (Some stand) shows = shows.seen

module _ (setting : Setting) (places : Places) (held : Held) (f : Stamps (game setting)) (player : Player) (req : Request) (moment : ℕ) (wanted : List CellId)
    (directory : setting.cells ≡ cells_of places) (shows : Shows setting held f) (asks : AskedBy (sees_held held) places player req wanted) where
  seen-is : (cell : CellId) (seen : View) → sees_held held cell ≡ Some seen → seen ≡ view setting.cells f.universe cell
  seen-is cell seen is = view-at seen (held_at held cell) (view setting.cells f.universe cell) (only-seen setting f cell (held_at held cell) (shows cell)) is

  asked-is : (cell : CellId) → has wanted cell ≡ asked setting.cells (view setting.cells f.universe) player req cell
  asked-is cell = asks (view setting.cells f.universe) (λ other seen is. sym (seen-is other seen is)) cell ∙ ap (λ cells. asked cells (view setting.cells f.universe) player req cell) (sym directory)

  -- what is needed of the cells that are held is the least closed set of their universe
  pub least-is : (entry : Entry) (names : List CellId) → entry.player ≡ player → entry.req ≡ req → IsLeastClosed (sees_held held) wanted moment names
      → IsLeast (game setting) (view setting.cells f.universe) moment entry (has names)
  least-is entry names by of least =
      let asked-by : (y : CellId) → asked setting.cells (view setting.cells f.universe) entry.player entry.req y ≡ has wanted y =
      λ y. (λ i. asked setting.cells (view setting.cells f.universe) (by i) (of i) y) ∙ sym (asked-is y) in
      record {
        closed = λ x has_x y brought. least.enough.closed x y (view setting.cells f.universe x) has_x
            (sees-view (held_at held x) (view setting.cells f.universe x) (only-seen setting f x (held_at held x) (shows x)) (least.held x has_x)) brought;
        covers = λ y is. least.enough.covers y (sym (asked-by y) ∙ is);
        least = λ R closed covers x has_x. least.needed x has_x R (record {
          covers = λ cell is. covers cell (asked-by cell ∙ is);
          closed = λ cell other seen in_r sees brought. closed cell in_r other (subst (λ v. brings v moment other ≡ true) (seen-is cell seen sees) brought);
        });
      }

  -- all cells of the directory are held, so that none is missing
  pub none-missing : (names : List CellId) → KeepsRules setting f.universe → ((cell : CellId) → holds held cell ≡ is_listed setting.cells cell)
      → AreMissing (sees_held held) wanted moment names → ⊥
  none-missing [] fine all missing = absurd (let some : 0 < 0 = missing.some in omega arith)
  none-missing (name ∷ names) fine all missing =
      let there : has (name ∷ names) name ≡ true = ap (λ b. b || has names name) (same_cell_itself name) in
      let enough : IsEnough (sees_held held) wanted moment (holds held) = record {
        covers = λ cell is. all cell ∙ in-listed setting.cells cell (asked-in setting.cells (view setting.cells f.universe) player req cell (sym (asked-is cell) ∙ is));
        closed = λ cell other seen is sees brought. all other
            ∙ in-listed setting.cells other (brought_listed setting f.universe cell moment other fine (subst (λ v. brings v moment other ≡ true) (seen-is cell seen sees) brought));
      } in
      held-seen (held_at held name) (missing.needed name there (holds held) enough) (missing.lost name there)

-- two least sets are one
same-least : (setting : Setting) (v : CellId → View) (moment : ℕ) (entry : Entry) (S R : CellId → Bool) → IsLeast (game setting) v moment entry S → IsLeast (game setting) v moment entry R
    → (cell : CellId) → S cell ≡ R cell
same-least setting v moment entry S R one other cell =
    elim (test (S cell)) [
      | inl is ↦ is ∙ sym (one.least R other.closed other.covers cell is)
      | inr none ↦ none ∙ sym (fails (R cell) (λ is. never (S cell) (other.least S one.closed one.covers cell is) none))
    ]

-- what is needed is what an entry touches
pub needed-touched : (base : Universe) (history : List Entry) (lazy : LazyUniverse) (entry : Entry) (player : Player) (req : Request) (moment : ℕ) (wanted names : List CellId)
    → Keeps base history lazy → AskedBy (sees_held lazy.cells) lazy.places player req wanted → IsLeastClosed (sees_held lazy.cells) wanted moment names
    → entry.player ≡ player → entry.req ≡ req → entry.moment ≡ moment → (cell : CellId) → has names cell ≡ touched_at base history entry cell
needed-touched base history lazy entry player req moment wanted names keeps asks least by of at cell =
    let f = lazily_at base history in
    let here = subst (λ t. IsLeast (game base.setting) (view base.setting.cells f.universe) t entry (has names)) (sym at)
    (least-is base.setting lazy.places lazy.cells f player req moment wanted keeps.directory keeps.shows asks entry names by of least) in
    let fine = (keeps-history base history keeps.founded keeps.legal).fine in
    same-least base.setting (view base.setting.cells f.universe) entry.moment entry (has names) (touched_at base history entry) here
    (closing-least (game base.setting) (game_laws base.setting) f.universe entry.moment entry fine) cell

-- of a universe that keeps a history no cell is missing
pub all-held : (base : Universe) (history : List Entry) (lazy : LazyUniverse) (player : Player) (req : Request) (moment : ℕ) (wanted names : List CellId)
    → Keeps base history lazy → AskedBy (sees_held lazy.cells) lazy.places player req wanted → AreMissing (sees_held lazy.cells) wanted moment names → ⊥
all-held base history lazy player req moment wanted names keeps asks missing =
    none-missing base.setting lazy.places lazy.cells (lazily_at base history) player req moment wanted keeps.directory keeps.shows asks names
    (keeps-history base history keeps.founded keeps.legal).fine keeps.held missing

picked-held : (b : Bool) (found : Option Stand) → (b ≡ true → IsSome (option_map (λ (s : Stand). s.seen) found)) → is_some (cond b found None) ≡ b
picked-held true None held = absurd (let lost = held refl in cc lost)
picked-held true (Some stand) held = refl
picked-held false found held = refl

-- copies of them are copies of what an entry touches
pub picked-touched : (lazy : LazyUniverse) (player : Player) (req : Request) (moment : ℕ) (wanted names : List CellId) (picked : Held) → AskedBy (sees_held lazy.cells) lazy.places player req wanted
    → IsLeastClosed (sees_held lazy.cells) wanted moment names → Picks lazy.cells names picked → IsNamed picked → AreTouched lazy player req moment picked
picked-touched lazy player req moment wanted names picked asks least picks named =
    let held : (cell : CellId) → holds picked cell ≡ has names cell = λ cell. ap is_some (picks cell) ∙ picked-held (has names cell) (held_at lazy.cells cell) (least.held cell) in
    record {
      named = named;
      copies = λ cell. picks cell ∙ ap (λ b. cond b (held_at lazy.cells cell) None) (sym (held cell));
      touched = λ base history entry keeps by of at cell. held cell ∙ needed-touched base history lazy entry player req moment wanted names keeps asks least by of at cell;
    }

unseen : (found : Option Stand) → option_map (λ (s : Stand). s.seen) found ≡ None → is_some found ≡ false
unseen None is = refl
unseen (Some stand) is = absurd (cc is)

-- a player whose account isn't held is none, and asks for nothing
pub nothing-asked : (base : Universe) (history : List Entry) (lazy : LazyUniverse) (player : Player) (req : Request) → Keeps base history lazy
    → sees_held lazy.cells (Account player) ≡ None → AskedBy (sees_held lazy.cells) lazy.places player req []
nothing-asked base history lazy player req keeps missing =
    let unlisted : is_listed (cells_of lazy.places) (Account player) ≡ false =
    ap (λ cells. is_listed cells (Account player)) (sym keeps.directory) ∙ sym (keeps.held (Account player)) ∙ unseen (held_at lazy.cells (Account player)) missing in
    λ seen shows cell.
    sym (ap (λ b. (b && is_listed (cells_of lazy.places) cell) && (same_cell (Account player) cell || names seen player req cell)) unlisted)

pub if_both : {T E : Type 0} (r : Result T E) (P Q R : T → Type 0) → ((x : T) → P x → Q x → R x) → IfOk r P → IfOk r Q → IfOk r R
if_both (Ok x) P Q R both first second = both x first second
if_both (Err e) P Q R both first second = tt
