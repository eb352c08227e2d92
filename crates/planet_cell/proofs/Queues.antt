-- What stays within the caps as the queue of a planet changes.
use Rattle.std.proofs.Common.{◌≡◌, ◌≢◌, ℕ, zero, suc, ◌+◌, ◌<◌, ◌≤◌, Bool, true, false, cond, List, [], ◌∷◌, ◌++◌, length, drop, get_or, refl, ap, sym, subst, ◌∙◌, arith, slice_index, get_or-set_other, le_refl, inl, inr}
use Rattle.std.specs.Prelude.{IsTrue, Some, slice_index_or, slice_get, slice_set, ◌==◌, ◌||◌, not, if◌then◌else◌}
use Rattle.std.specs.List.{position_or_len}
use Rattle.std.proofs.lemmas.Bool.{cases_eq}
use Rattle.std.proofs.lemmas.Bool.Decides.{nat_tests}
use Rattle.std.proofs.lemmas.List.Sums.{sum_by-cons, sum_by-set, sum_by_push}
use Rattle.catalog.specs.Classes.{is_building}
use Rattle.catalog.specs.Kinds.{kind_number, place_in}
use Rattle.catalog.specs.Levels.{level_cap_of}
use Rattle.catalog.specs.declared.classes.TheConstants.{BUILDINGS}
use Rattle.catalog.specs.declared.classes.Building.{Building}
use Rattle.catalog.specs.declared.kind.Kind.{Kind}
use Rattle.catalog.specs.declared.kind.Kind.TheVariants.{MetalMine}
use Rattle.catalog.specs.declared.kind.TheConstants.{KINDS}
use Rattle.planet_cell.specs.Bounds.{AreWithinCaps, count_of}
use Rattle.planet_cell.specs.declared.building_item.BuildingItem.{BuildingItem}
use Rattle.tick_model.specs.Production.{level_of}
use Rattle.tick_model.specs.Universe.{PlanetFields}

-- a kind is known by its number
kind_back : (kind : Kind) → get_or KINDS (place_in KINDS kind) MetalMine ≡ kind
kind_back MetalMine = refl
kind_back _ = refl

pub one_kind : (first second : Kind) → kind_number first ≡ kind_number second → first ≡ second
one_kind first second same =
    sym (kind_back first) ∙ ap (λ (n : ℕ). get_or KINDS (position_or_len (λ other. kind_number other == n) KINDS) MetalMine) same ∙ kind_back second

-- the buildings are listed by number
building_place : (kind : Kind) → IsTrue (not (is_building kind) || (place_in BUILDINGS kind + 1 == kind_number kind))
building_place MetalMine = refl
building_place _ = refl

follows : (a b : Bool) → IsTrue (not a || b) → IsTrue a → IsTrue b
follows true b either holds = either
follows false b either holds = cc

pub place_number : (kind : Kind) → IsTrue (is_building kind) → place_in BUILDINGS kind + 1 ≡ kind_number kind
place_number kind class = grind (arith, nat_tests, follows _ _ (building_place kind) class)

-- an item counts as one of its kind
counts : Kind → BuildingItem → ℕ
counts kind item = cond (kind_number item.kind.kind == kind_number kind) 1 0

count_first : (kind : Kind) (first : BuildingItem) (later : List BuildingItem) → count_of kind (first ∷ later) ≡ counts kind first + count_of kind later
unfolding counts
count_first kind first later = sum_by-cons (λ (item : BuildingItem). cond (kind_number item.kind.kind == kind_number kind) 1 0) first later

count_last : (kind : Kind) (items : List BuildingItem) (last : BuildingItem) → count_of kind (items ++ last ∷ []) ≡ count_of kind items + counts kind last
unfolding counts
count_last kind items last = sum_by_push (λ (item : BuildingItem). cond (kind_number item.kind.kind == kind_number kind) 1 0) items last

count_set : (kind : Kind) (items : List BuildingItem) (place : ℕ) (other next : BuildingItem) → place < length items → count_of kind (slice_set items place next) + counts kind (get_or items place other) ≡ count_of kind items + counts kind next
unfolding counts
count_set kind items place other next within = sum_by-set (λ (item : BuildingItem). cond (kind_number item.kind.kind == kind_number kind) 1 0) items place next other within

counts_this : (kind : Kind) (item : BuildingItem) → kind_number item.kind.kind ≡ kind_number kind → counts kind item ≡ 1
unfolding counts
counts_this kind item same = grind (arith, nat_tests)

counts_other : (kind : Kind) (item : BuildingItem) → kind_number item.kind.kind ≢ kind_number kind → counts kind item ≡ 0
unfolding counts
counts_other kind item other = grind (arith, nat_tests)

counts_same : (kind : Kind) (first next : BuildingItem) → next.kind.kind ≡ first.kind.kind → counts kind next ≡ counts kind first
unfolding counts
counts_same kind first next same = ap (λ (x : Kind). cond (kind_number x == kind_number kind) 1 0) same

-- without its first item a queue stays within the caps
pub caps_later : (levels : List ℕ) (items : List BuildingItem) → AreWithinCaps levels items → AreWithinCaps levels (drop 1 items)
caps_later levels [] capped = capped
caps_later levels (first ∷ later) capped = record { each = λ kind class. omega (arith, capped.each kind class, count_first kind first later) }

-- and so it does if another item of the same kind stands first
pub caps_started : (levels : List ℕ) (items : List BuildingItem) (first next : BuildingItem) → AreWithinCaps levels items → Some first ≡ slice_get items 0 → next.kind.kind ≡ first.kind.kind → AreWithinCaps levels (slice_set items 0 next)
caps_started levels [] first next capped here same = capped
caps_started levels (head ∷ later) first next capped here same =
    let equal : head ≡ first = cc here in
    let kinds : next.kind.kind ≡ head.kind.kind = same ∙ ap (λ (x : BuildingItem). x.kind.kind) (sym equal) in
    record {
      each = λ kind class.
          omega (arith, capped.each kind class, count_first kind head later, count_first kind next later, counts_same kind head next kinds);
    }

-- a number that is written is there, if its place is
set_here : (levels : List ℕ) (place level : ℕ) → slice_index (slice_set levels place level) place ≤ level
set_here [] place level = omega arith
set_here (first ∷ later) zero level = le_refl level
set_here (first ∷ later) (suc place) level = set_here later place level

-- One more level, and one item less: a kind that has a place of its own stays within its cap.
raised : (place : Kind → ℕ) (levels : List ℕ) (first : BuildingItem) (later : List BuildingItem)
    → ((a b : Kind) → IsTrue (is_building a) → IsTrue (is_building b) → place a ≡ place b → kind_number a ≡ kind_number b)
    → ((kind : Kind) → IsTrue (is_building kind) → slice_index levels (place kind) + count_of kind (first ∷ later) ≤ level_cap_of kind)
    → (kind : Kind) → IsTrue (is_building kind)
    → slice_index (slice_set levels (place first.kind.kind) (slice_index levels (place first.kind.kind) + 1)) (place kind) + count_of kind later ≤ level_cap_of kind
raised place levels first later apart capped kind class =
    let here : (kind_number first.kind.kind ≡ kind_number kind) → slice_index (slice_set levels (place first.kind.kind) (slice_index levels (place first.kind.kind) + 1)) (place kind) + count_of kind later ≤ level_cap_of kind =
    λ same.
    let kinds = one_kind first.kind.kind kind same in
    let family = λ (x : Kind). slice_index (slice_set levels (place first.kind.kind) (slice_index levels (place first.kind.kind) + 1)) (place x) + count_of x later ≤ level_cap_of x in
    subst family kinds
    (omega (arith, set_here levels (place first.kind.kind) (slice_index levels (place first.kind.kind) + 1), capped first.kind.kind first.kind.class, count_first first.kind.kind first later, counts_this first.kind.kind first refl)) in
    let there : (kind_number first.kind.kind ≢ kind_number kind) → slice_index (slice_set levels (place first.kind.kind) (slice_index levels (place first.kind.kind) + 1)) (place kind) + count_of kind later ≤ level_cap_of kind =
    λ other.
    let places : place kind ≢ place first.kind.kind = λ same. other (apart first.kind.kind kind first.kind.class class (sym same)) in
    let kept : slice_index (slice_set levels (place first.kind.kind) (slice_index levels (place first.kind.kind) + 1)) (place kind) ≡ slice_index levels (place kind) = get_or-set_other levels _ _ _ _ places in
    omega (arith, kept, capped kind class, count_first kind first later) in
    elim (cases_eq (kind_number first.kind.kind) (kind_number kind)) [ inl same ↦ here same | inr other ↦ there other ]

-- with an item of its own in the queue a building is below its cap
head_below : (place : Kind → ℕ) (levels : List ℕ) (first : BuildingItem) (later : List BuildingItem)
    → slice_index levels (place first.kind.kind) + count_of first.kind.kind (first ∷ later) ≤ level_cap_of first.kind.kind → slice_index levels (place first.kind.kind) < level_cap_of first.kind.kind
head_below place levels first later capped = omega (arith, capped, count_first first.kind.kind first later, counts_this first.kind.kind first refl)

-- buildings are apart in the list
buildings_apart : (a b : Kind) → IsTrue (is_building a) → IsTrue (is_building b) → place_in BUILDINGS a ≡ place_in BUILDINGS b → kind_number a ≡ kind_number b
buildings_apart a b first second same = sym (place_number a first) ∙ ap (λ (n : ℕ). n + 1) same ∙ place_number b second

-- the level of the first item rises, and the item is gone
pub caps_raised : (levels : List ℕ) (items : List BuildingItem) (first : BuildingItem) (place level : ℕ) → AreWithinCaps levels items → first ≡ slice_index_or items 0 first → 0 < length items → place ≡ place_in BUILDINGS first.kind.kind → level ≡ slice_index levels place + 1
    → AreWithinCaps (slice_set levels place level) (drop 1 items)
caps_raised levels [] first place level capped here some at rises = absurd (omega arith)
caps_raised levels (head ∷ later) first place level capped here some at rises =
    let item : first ≡ head = here in
    let there : place_in BUILDINGS head.kind.kind ≡ place = ap (λ (x : BuildingItem). place_in BUILDINGS x.kind.kind) (sym item) ∙ sym at in
    let family = λ (p : ℕ). (rises : level ≡ slice_index levels p + 1) → AreWithinCaps (slice_set levels p level) later in
    let written = λ (l : ℕ). AreWithinCaps (slice_set levels (place_in BUILDINGS head.kind.kind) l) later in
    let next : AreWithinCaps (slice_set levels (place_in BUILDINGS head.kind.kind) (slice_index levels (place_in BUILDINGS head.kind.kind) + 1)) later =
    record { each = raised (place_in BUILDINGS) levels head later buildings_apart capped.each } in
    subst family there (λ up. subst written (sym up) next) rises

-- the first item is of a building that can still rise
pub first_below : (planet : PlanetFields) (items : List BuildingItem) (first : BuildingItem) → AreWithinCaps planet.levels items → Some first ≡ slice_get items 0 → level_of planet first.kind.kind < level_cap_of first.kind.kind
unfolding level_of
first_below planet [] first capped here = cc here
first_below planet (head ∷ later) first capped here =
    let equal : head ≡ first = cc here in
    let family = λ (x : BuildingItem). slice_index planet.levels (place_in BUILDINGS x.kind.kind) < level_cap_of x.kind.kind in
    let below = head_below (place_in BUILDINGS) planet.levels head later (capped.each head.kind.kind head.kind.class) in
    subst family equal below

-- one item more
pushed : (place : Kind → ℕ) (levels : List ℕ) (items : List BuildingItem) (last : BuildingItem)
    → ((kind : Kind) → IsTrue (is_building kind) → slice_index levels (place kind) + count_of kind items ≤ level_cap_of kind)
    → slice_index levels (place last.kind.kind) + count_of last.kind.kind items < level_cap_of last.kind.kind
    → (kind : Kind) → IsTrue (is_building kind) → slice_index levels (place kind) + count_of kind (items ++ last ∷ []) ≤ level_cap_of kind
pushed place levels items last capped below kind class =
    let here : (kind_number last.kind.kind ≡ kind_number kind) → slice_index levels (place kind) + count_of kind (items ++ last ∷ []) ≤ level_cap_of kind =
    λ same.
    let family = λ (x : Kind). slice_index levels (place x) + count_of x (items ++ last ∷ []) ≤ level_cap_of x in
    subst family (one_kind last.kind.kind kind same) (omega (arith, below, count_last last.kind.kind items last, counts_this last.kind.kind last refl)) in
    let there : (kind_number last.kind.kind ≢ kind_number kind) → slice_index levels (place kind) + count_of kind (items ++ last ∷ []) ≤ level_cap_of kind =
    λ other. omega (arith, capped kind class, count_last kind items last, counts_other kind last other) in
    elim (cases_eq (kind_number last.kind.kind) (kind_number kind)) [ inl same ↦ here same | inr other ↦ there other ]

-- a building that can still rise can be ordered once more
pub caps_ordered : (planet : PlanetFields) (items : List BuildingItem) (last : BuildingItem) → AreWithinCaps planet.levels items → level_of planet last.kind.kind + count_of last.kind.kind items < level_cap_of last.kind.kind
    → AreWithinCaps planet.levels (items ++ last ∷ [])
unfolding level_of
caps_ordered planet items last capped below =
    record { each = pushed (place_in BUILDINGS) planet.levels items last capped.each below }

pub caps_pushed : (planet : PlanetFields) (items next : List BuildingItem) (last : BuildingItem) (fits : Bool) → next ≡ (if fits then items ++ last ∷ [] else items) → AreWithinCaps planet.levels items
    → level_of planet last.kind.kind + count_of last.kind.kind items < level_cap_of last.kind.kind → AreWithinCaps planet.levels next
caps_pushed planet items next last true is capped below = subst (AreWithinCaps planet.levels) (sym is) (caps_ordered planet items last capped below)
caps_pushed planet items next last false is capped below = subst (AreWithinCaps planet.levels) (sym is) capped

-- an item gives way to another one of its kind
pub caps_numbered : (levels : List ℕ) (items : List BuildingItem) (place : ℕ) (last next : BuildingItem) → place < length items → last ≡ get_or items place last → next.kind ≡ last.kind → AreWithinCaps levels items
    → AreWithinCaps levels (slice_set items place next)
caps_numbered levels items place last next within here same capped =
    record {
      each = λ kind class.
          let kinds : next.kind.kind ≡ last.kind.kind = ap (λ (x : Building). x.kind) same in
          let set = count_set kind items place last next within in
          let found : counts kind (get_or items place last) ≡ counts kind last = ap (counts kind) (sym here) in
          omega (arith, capped.each kind class, set, found, counts_same kind last next kinds);
    }

-- the first item of a queue is of a building that can still rise
pub caps_first : (planet : PlanetFields) (items next : List BuildingItem) (first last : BuildingItem) → items ≡ [] → next ≡ items ++ last ∷ [] → AreWithinCaps planet.levels items → last.kind.kind ≡ first.kind.kind
    → level_of planet first.kind.kind < level_cap_of first.kind.kind → AreWithinCaps planet.levels next
caps_first planet items next first last empty is capped same below =
    let none : count_of last.kind.kind items ≡ 0 = ap (count_of last.kind.kind) empty in
    let family = λ (x : Kind). level_of planet x + count_of last.kind.kind items < level_cap_of x in
    let room : level_of planet last.kind.kind + count_of last.kind.kind items < level_cap_of last.kind.kind = subst family (sym same) (omega (arith, none, below)) in
    subst (AreWithinCaps planet.levels) (sym is) (caps_ordered planet items last capped room)
