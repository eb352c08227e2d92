-- What is held after cells are copied.
use Rattle.std.proofs.Common.{◌≡◌, ◌++◌, Bool, true, false, cond, List, [], ◌∷◌, ap, ◌∙◌, sym, refl, Option, Some, None}
use Rattle.std.specs.Prelude.{◌&&◌, ◌||◌, is_some, IfOk, IsSome, OnOk}
use Rattle.std.specs.declared.result.Result.{Result}
use Rattle.std.specs.declared.result.Result.TheVariants.{Ok, Err}
use Rattle.std.specs.List.{list_any}
use Rattle.base_ids.specs.Cells.{same_cell}
use Rattle.base_ids.specs.declared.cell_id.CellId.{CellId}
use Rattle.laziness.proofs.Bringing.{never}
use Rattle.tick_model.proofs.Lists.{cell-is, cell-turned}
use Rattle.happenings.specs.Held.{CopiesFrom, PicksFrom, Puts, Stand, held_at, holds}
use Rattle.happenings.specs.Naming.{held_named}
use Rattle.happenings.specs.Sights.{names_held}
use Rattle.happenings.specs.declared.held.Held.{Held}

pub on_ok : {T E : Type 0} (r : Result T E) (P Q : Type 0) → (P → Q) → OnOk r P → OnOk r Q
on_ok (Ok x) P Q f p = f p
on_ok (Err e) P Q f p = tt

pub if_ok : {T E : Type 0} (r : Result T E) (P Q : T → Type 0) → ((x : T) → P x → Q x) → IfOk r P → IfOk r Q
if_ok (Ok x) P Q f p = f x p
if_ok (Err e) P Q f p = tt

copied_at : (b : Bool) (there : CellId → Option Stand) (name cell : CellId) (stand : Stand) (old : Option Stand) → same_cell name cell ≡ b → there name ≡ Some stand
    → cond b (Some stand) old ≡ cond (b && is_some (there cell)) (there cell) old
copied_at true there name cell stand old same found =
    let one : name ≡ cell = cell-is name cell same in
    let here : there cell ≡ Some stand = ap there (sym one) ∙ found in
    rw here refl
copied_at false there name cell stand old other found = refl

-- a cell that is held is copied
pub copies_one : (there : CellId → Option Stand) (old new : Held) (name id : CellId) (stand copy : Stand) → there name ≡ Some stand → id ≡ name → copy ≡ stand → Puts old new id copy → CopiesFrom there name old new
copies_one there old new name id stand copy found same equal puts cell =
    puts cell ∙ (λ i. cond (same_cell (same i) cell) (Some (equal i)) (held_at old cell))
    ∙ copied_at (same_cell name cell) there name cell stand (held_at old cell) refl found

none_at : (b : Bool) (there : CellId → Option Stand) (name cell : CellId) (old : Option Stand) → same_cell name cell ≡ b → there name ≡ None
    → old ≡ cond (b && is_some (there cell)) (there cell) old
none_at true there name cell old same none =
    let here : there cell ≡ None = ap there (sym (cell-is name cell same)) ∙ none in
    rw here refl
none_at false there name cell old other none = refl

-- one that isn't held makes no difference
pub copies_none : (there : CellId → Option Stand) (old : Held) (name : CellId) → there name ≡ None → CopiesFrom there name old old
copies_none there old name none cell = none_at (same_cell name cell) there name cell (held_at old cell) refl none

picked_at : (a b : Bool) (there : Option Stand) → cond (a && is_some there) there (cond b there None) ≡ cond (b || a) there None
picked_at true true None = refl
picked_at true false None = refl
picked_at true true (Some s) = refl
picked_at true false (Some s) = refl
picked_at false true there = refl
picked_at false false there = refl

pub any_push : {A : Type 0} (p : A → Bool) (xs : List A) (y : A) → list_any p (xs ++ y ∷ []) ≡ (list_any p xs || p y)
any_push p [] y = any_one (p y)
  where
    any_one : (b : Bool) → (b || false) ≡ (false || b)
    any_one true = refl
    any_one false = refl
any_push p (x ∷ xs) y = ap (λ b. p x || b) (any_push p xs y) ∙ regrouped (p x) (list_any p xs) (p y)
  where
    regrouped : (a b c : Bool) → (a || (b || c)) ≡ ((a || b) || c)
    regrouped true b c = refl
    regrouped false b c = refl

-- one cell more is picked
pub picks_more : (there : CellId → Option Stand) (old new : Held) (names : List CellId) (name : CellId) → PicksFrom there names old → CopiesFrom there name old new → PicksFrom there (names ++ name ∷ []) new
picks_more there old new names name picks copies cell =
    copies cell ∙ (λ i. cond (same_cell name cell && is_some (there cell)) (there cell) (picks cell i))
    ∙ picked_at (same_cell name cell) (list_any (same_cell cell) names) (there cell)
    ∙ ap (λ b. cond b (there cell) None) (ap (λ b. list_any (same_cell cell) names || b) (cell-turned name cell) ∙ sym (any_push (same_cell cell) names name))

all-picked : (b : Bool) (there : Option Stand) → (IsSome there → b ≡ true) → cond b there None ≡ there
all-picked true there named = refl
all-picked false None named = refl
all-picked false (Some stand) named = never false (named refl) refl

-- with all names all is picked
pub picks_all : (held : Held) (there : CellId → Option Stand) (new : Held) → ((cell : CellId) → IsSome (there cell) → IsSome (held_at held cell)) → PicksFrom there (names_held held) new
    → (cell : CellId) → held_at new cell ≡ there cell
picks_all held there new holds picks cell =
    picks cell ∙ all-picked (list_any (same_cell cell) (names_held held)) (there cell) (λ some. held_named held cell (holds cell some))
