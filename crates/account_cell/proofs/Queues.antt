-- What stays within the caps as the queue of an account changes.
use Rattle.std.proofs.Common.{replicate, ◌≡◌, ◌≢◌, ℕ, zero, suc, ◌+◌, ◌<◌, ◌≤◌, Bool, true, false, cond, List, [], ◌∷◌, ◌++◌, length, drop, get_or, refl, ap, sym, subst, ◌∙◌, arith, slice_index, get_or-set_other, le_refl, inl, inr}
use Rattle.std.specs.Prelude.{IsTrue, Some, slice_index_or, slice_get, slice_set, ◌==◌, ◌||◌, not, if◌then◌else◌}
use Rattle.std.specs.List.{position_or_len}
use Rattle.std.proofs.lemmas.Bool.{cases_eq}
use Rattle.std.proofs.lemmas.Bool.Decides.{nat_tests}
use Rattle.std.proofs.lemmas.List.Sums.{sum_by-cons, sum_by-set, sum_by_push}
use Rattle.catalog.specs.Classes.{is_technology}
use Rattle.catalog.specs.Kinds.{kind_number, place_in}
use Rattle.catalog.specs.Levels.{level_cap_of}
use Rattle.catalog.specs.Technologies.{level_in}
use Rattle.catalog.specs.declared.classes.TheConstants.{TECHNOLOGIES}
use Rattle.catalog.specs.declared.classes.Technology.{Technology}
use Rattle.catalog.specs.declared.kind.Kind.{Kind}
use Rattle.catalog.specs.declared.kind.Kind.TheVariants.{MetalMine}
use Rattle.catalog.specs.declared.kind.TheConstants.{KINDS}
use Rattle.account_cell.specs.Bounds.{AreWithinCaps, count_of}
use Rattle.account_cell.specs.declared.research_item.ResearchItem.{ResearchItem}

-- a kind is known by its number
kind_back : (kind : Kind) → get_or KINDS (place_in KINDS kind) MetalMine ≡ kind
kind_back MetalMine = refl
kind_back _ = refl

pub one_kind : (first second : Kind) → kind_number first ≡ kind_number second → first ≡ second
one_kind first second same =
    sym (kind_back first) ∙ ap (λ (n : ℕ). get_or KINDS (position_or_len (λ other. kind_number other == n) KINDS) MetalMine) same ∙ kind_back second

-- the technologies are listed by number
technology_place : (kind : Kind) → IsTrue (not (is_technology kind) || (place_in TECHNOLOGIES kind + 21 == kind_number kind))
technology_place MetalMine = refl
technology_place _ = refl

follows : (a b : Bool) → IsTrue (not a || b) → IsTrue a → IsTrue b
follows true b either holds = either
follows false b either holds = cc

pub place_number : (kind : Kind) → IsTrue (is_technology kind) → place_in TECHNOLOGIES kind + 21 ≡ kind_number kind
place_number kind class = grind (arith, nat_tests, follows _ _ (technology_place kind) class)

-- an item counts as one of its kind
counts : Kind → ResearchItem → ℕ
counts kind item = cond (kind_number item.kind.kind == kind_number kind) 1 0

count_first : (kind : Kind) (first : ResearchItem) (later : List ResearchItem) → count_of kind (first ∷ later) ≡ counts kind first + count_of kind later
unfolding counts
count_first kind first later = sum_by-cons (λ (item : ResearchItem). cond (kind_number item.kind.kind == kind_number kind) 1 0) first later

count_last : (kind : Kind) (items : List ResearchItem) (last : ResearchItem) → count_of kind (items ++ last ∷ []) ≡ count_of kind items + counts kind last
unfolding counts
count_last kind items last = sum_by_push (λ (item : ResearchItem). cond (kind_number item.kind.kind == kind_number kind) 1 0) items last

count_set : (kind : Kind) (items : List ResearchItem) (place : ℕ) (other next : ResearchItem) → place < length items → count_of kind (slice_set items place next) + counts kind (get_or items place other) ≡ count_of kind items + counts kind next
unfolding counts
count_set kind items place other next within = sum_by-set (λ (item : ResearchItem). cond (kind_number item.kind.kind == kind_number kind) 1 0) items place next other within

counts_this : (kind : Kind) (item : ResearchItem) → kind_number item.kind.kind ≡ kind_number kind → counts kind item ≡ 1
unfolding counts
counts_this kind item same = grind (arith, nat_tests)

counts_other : (kind : Kind) (item : ResearchItem) → kind_number item.kind.kind ≢ kind_number kind → counts kind item ≡ 0
unfolding counts
counts_other kind item other = grind (arith, nat_tests)

counts_same : (kind : Kind) (first next : ResearchItem) → next.kind.kind ≡ first.kind.kind → counts kind next ≡ counts kind first
unfolding counts
counts_same kind first next same = ap (λ (x : Kind). cond (kind_number x == kind_number kind) 1 0) same

-- without its first item a queue stays within the caps
pub caps_later : (levels : List ℕ) (items : List ResearchItem) → AreWithinCaps levels items → AreWithinCaps levels (drop 1 items)
caps_later levels [] capped = capped
caps_later levels (first ∷ later) capped = record { each = λ kind class. omega (arith, capped.each kind class, count_first kind first later) }

-- and so it does if another item of the same kind stands first
pub caps_started : (levels : List ℕ) (items : List ResearchItem) (first next : ResearchItem) → AreWithinCaps levels items → Some first ≡ slice_get items 0 → next.kind.kind ≡ first.kind.kind → AreWithinCaps levels (slice_set items 0 next)
caps_started levels [] first next capped here same = capped
caps_started levels (head ∷ later) first next capped here same =
    let equal : head ≡ first = cc here in
    let kinds : next.kind.kind ≡ head.kind.kind = same ∙ ap (λ (x : ResearchItem). x.kind.kind) (sym equal) in
    record {
      each = λ kind class.
          omega (arith, capped.each kind class, count_first kind head later, count_first kind next later, counts_same kind head next kinds);
    }

-- a number that is written is there, if its place is
set_here : (levels : List ℕ) (place level : ℕ) → slice_index (slice_set levels place level) place ≤ level
set_here [] place level = omega arith
set_here (first ∷ later) zero level = le_refl level
set_here (first ∷ later) (suc place) level = set_here later place level

-- One more level, and one item less: a kind that has a place of its own stays within its cap.
raised : (place : Kind → ℕ) (levels : List ℕ) (first : ResearchItem) (later : List ResearchItem)
    → ((a b : Kind) → IsTrue (is_technology a) → IsTrue (is_technology b) → place a ≡ place b → kind_number a ≡ kind_number b)
    → ((kind : Kind) → IsTrue (is_technology kind) → slice_index levels (place kind) + count_of kind (first ∷ later) ≤ level_cap_of kind)
    → (kind : Kind) → IsTrue (is_technology kind)
    → slice_index (slice_set levels (place first.kind.kind) (slice_index levels (place first.kind.kind) + 1)) (place kind) + count_of kind later ≤ level_cap_of kind
raised place levels first later apart capped kind class =
    let here : (kind_number first.kind.kind ≡ kind_number kind) → slice_index (slice_set levels (place first.kind.kind) (slice_index levels (place first.kind.kind) + 1)) (place kind) + count_of kind later ≤ level_cap_of kind =
    λ same.
    let kinds = one_kind first.kind.kind kind same in
    let family = λ (x : Kind). slice_index (slice_set levels (place first.kind.kind) (slice_index levels (place first.kind.kind) + 1)) (place x) + count_of x later ≤ level_cap_of x in
    subst family kinds
    (omega (arith, set_here levels (place first.kind.kind) (slice_index levels (place first.kind.kind) + 1), capped first.kind.kind first.kind.class, count_first first.kind.kind first later, counts_this first.kind.kind first refl)) in
    let there : (kind_number first.kind.kind ≢ kind_number kind) → slice_index (slice_set levels (place first.kind.kind) (slice_index levels (place first.kind.kind) + 1)) (place kind) + count_of kind later ≤ level_cap_of kind =
    λ other.
    let places : place kind ≢ place first.kind.kind = λ same. other (apart first.kind.kind kind first.kind.class class (sym same)) in
    let kept : slice_index (slice_set levels (place first.kind.kind) (slice_index levels (place first.kind.kind) + 1)) (place kind) ≡ slice_index levels (place kind) = get_or-set_other levels _ _ _ _ places in
    omega (arith, kept, capped kind class, count_first kind first later) in
    elim (cases_eq (kind_number first.kind.kind) (kind_number kind)) [ inl same ↦ here same | inr other ↦ there other ]

-- with an item of its own in the queue a technology is below its cap
head_below : (place : Kind → ℕ) (levels : List ℕ) (first : ResearchItem) (later : List ResearchItem)
    → slice_index levels (place first.kind.kind) + count_of first.kind.kind (first ∷ later) ≤ level_cap_of first.kind.kind → slice_index levels (place first.kind.kind) < level_cap_of first.kind.kind
head_below place levels first later capped = omega (arith, capped, count_first first.kind.kind first later, counts_this first.kind.kind first refl)

-- technologies are apart in the list
technologies_apart : (a b : Kind) → IsTrue (is_technology a) → IsTrue (is_technology b) → place_in TECHNOLOGIES a ≡ place_in TECHNOLOGIES b → kind_number a ≡ kind_number b
technologies_apart a b first second same = sym (place_number a first) ∙ ap (λ (n : ℕ). n + 21) same ∙ place_number b second

-- the level of the first item rises, and the item is gone
pub caps_raised : (levels : List ℕ) (items : List ResearchItem) (first : ResearchItem) (place level : ℕ) → AreWithinCaps levels items → first ≡ slice_index_or items 0 first → 0 < length items → place ≡ place_in TECHNOLOGIES first.kind.kind → level ≡ slice_index levels place + 1
    → AreWithinCaps (slice_set levels place level) (drop 1 items)
caps_raised levels [] first place level capped here some at rises = absurd (omega arith)
caps_raised levels (head ∷ later) first place level capped here some at rises =
    let item : first ≡ head = here in
    let there : place_in TECHNOLOGIES head.kind.kind ≡ place = ap (λ (x : ResearchItem). place_in TECHNOLOGIES x.kind.kind) (sym item) ∙ sym at in
    let family = λ (p : ℕ). (rises : level ≡ slice_index levels p + 1) → AreWithinCaps (slice_set levels p level) later in
    let written = λ (l : ℕ). AreWithinCaps (slice_set levels (place_in TECHNOLOGIES head.kind.kind) l) later in
    let next : AreWithinCaps (slice_set levels (place_in TECHNOLOGIES head.kind.kind) (slice_index levels (place_in TECHNOLOGIES head.kind.kind) + 1)) later =
    record { each = raised (place_in TECHNOLOGIES) levels head later technologies_apart capped.each } in
    subst family there (λ up. subst written (sym up) next) rises

-- the first item is of a technology that can still rise
pub first_below : (levels : List ℕ) (items : List ResearchItem) (first : ResearchItem) → AreWithinCaps levels items → Some first ≡ slice_get items 0 → level_in levels first.kind.kind < level_cap_of first.kind.kind
first_below levels [] first capped here = cc here
first_below levels (head ∷ later) first capped here =
    let equal : head ≡ first = cc here in
    let family = λ (x : ResearchItem). slice_index levels (place_in TECHNOLOGIES x.kind.kind) < level_cap_of x.kind.kind in
    let below = head_below (place_in TECHNOLOGIES) levels head later (capped.each head.kind.kind head.kind.class) in
    subst family equal below

-- one item more
pushed : (place : Kind → ℕ) (levels : List ℕ) (items : List ResearchItem) (last : ResearchItem)
    → ((kind : Kind) → IsTrue (is_technology kind) → slice_index levels (place kind) + count_of kind items ≤ level_cap_of kind)
    → slice_index levels (place last.kind.kind) + count_of last.kind.kind items < level_cap_of last.kind.kind
    → (kind : Kind) → IsTrue (is_technology kind) → slice_index levels (place kind) + count_of kind (items ++ last ∷ []) ≤ level_cap_of kind
pushed place levels items last capped below kind class =
    let here : (kind_number last.kind.kind ≡ kind_number kind) → slice_index levels (place kind) + count_of kind (items ++ last ∷ []) ≤ level_cap_of kind =
    λ same.
    let family = λ (x : Kind). slice_index levels (place x) + count_of x (items ++ last ∷ []) ≤ level_cap_of x in
    subst family (one_kind last.kind.kind kind same) (omega (arith, below, count_last last.kind.kind items last, counts_this last.kind.kind last refl)) in
    let there : (kind_number last.kind.kind ≢ kind_number kind) → slice_index levels (place kind) + count_of kind (items ++ last ∷ []) ≤ level_cap_of kind =
    λ other. omega (arith, capped kind class, count_last kind items last, counts_other kind last other) in
    elim (cases_eq (kind_number last.kind.kind) (kind_number kind)) [ inl same ↦ here same | inr other ↦ there other ]

-- a technology that can still rise can be ordered once more
pub caps_ordered : (levels : List ℕ) (items : List ResearchItem) (last : ResearchItem) → AreWithinCaps levels items → level_in levels last.kind.kind + count_of last.kind.kind items < level_cap_of last.kind.kind
    → AreWithinCaps levels (items ++ last ∷ [])
caps_ordered levels items last capped below =
    record { each = pushed (place_in TECHNOLOGIES) levels items last capped.each below }

pub caps_pushed : (levels : List ℕ) (items next : List ResearchItem) (last : ResearchItem) (fits : Bool) → next ≡ (if fits then items ++ last ∷ [] else items) → AreWithinCaps levels items
    → level_in levels last.kind.kind + count_of last.kind.kind items < level_cap_of last.kind.kind → AreWithinCaps levels next
caps_pushed levels items next last true is capped below = subst (AreWithinCaps levels) (sym is) (caps_ordered levels items last capped below)
caps_pushed levels items next last false is capped below = subst (AreWithinCaps levels) (sym is) capped

-- an item gives way to another one of its kind
pub caps_numbered : (levels : List ℕ) (items : List ResearchItem) (place : ℕ) (last next : ResearchItem) → place < length items → last ≡ get_or items place last → next.kind ≡ last.kind → AreWithinCaps levels items
    → AreWithinCaps levels (slice_set items place next)
caps_numbered levels items place last next within here same capped =
    record {
      each = λ kind class.
          let kinds : next.kind.kind ≡ last.kind.kind = ap (λ (x : Technology). x.kind) same in
          let set = count_set kind items place last next within in
          let found : counts kind (get_or items place last) ≡ counts kind last = ap (counts kind) (sym here) in
          omega (arith, capped.each kind class, set, found, counts_same kind last next kinds);
    }

-- the first item of a queue is of a technology that can still rise
pub caps_first : (levels : List ℕ) (items next : List ResearchItem) (first last : ResearchItem) → items ≡ [] → next ≡ items ++ last ∷ [] → AreWithinCaps levels items → last.kind.kind ≡ first.kind.kind
    → level_in levels first.kind.kind < level_cap_of first.kind.kind → AreWithinCaps levels next
caps_first levels items next first last empty is capped same below =
    let none : count_of last.kind.kind items ≡ 0 = ap (count_of last.kind.kind) empty in
    let family = λ (x : Kind). level_in levels x + count_of last.kind.kind items < level_cap_of x in
    let room : level_in levels last.kind.kind + count_of last.kind.kind items < level_cap_of last.kind.kind = subst family (sym same) (omega (arith, none, below)) in
    subst (AreWithinCaps levels) (sym is) (caps_ordered levels items last capped room)

-- without levels and items no technology is above its cap
none_within : (count place : ℕ) → slice_index (replicate count 0) place ≤ 0
none_within zero place = omega arith
none_within (suc count) zero = omega arith
none_within (suc count) (suc place) = none_within count place

pub caps_fresh : AreWithinCaps (replicate 14 0) []
caps_fresh = record { each = λ kind class. omega (arith, none_within 14 (place_in TECHNOLOGIES kind)) }
