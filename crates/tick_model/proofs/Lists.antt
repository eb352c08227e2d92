-- Lists of items and fleets: what is among them, what filters leave of them, and items that are distinct.
use Rattle.std.proofs.Common.{◌≡◌, ℕ, ◌+◌, ◌<◌, ◌≤◌, ◌⊎◌, inl, inr, Bool, true, false, not, cond, eqb, ◌&&◌, ◌||◌, List, [], ◌∷◌, ◌++◌, Option, None, Some, Contains, filter, length, arith, refl, ap, ◌∙◌, sym, subst}
use Rattle.std.specs.List.{All, list_any, filter_map, cons_option}
use Rattle.std.proofs.lemmas.List.Elements.{All-cons, All-contains, All-nil, All-weaker}
use Rattle.std.proofs.lemmas.List.{length-append}
use Rattle.std.proofs.lemmas.List.Elements.{filter-append}
use Rattle.std.proofs.lemmas.Bool.Decides.{nat_tests}
use Rattle.base_ids.specs.Cells.{same_cell, same_player}
use Rattle.base_ids.specs.declared.player.Player.{Player}
use Rattle.base_ids.specs.declared.cell_id.CellId.{CellId}
use Rattle.base_ids.specs.declared.cell_id.CellId.TheVariants.{Account, Planet}
use Rattle.base_ids.proofs.Names.{coord_is, player_is}
use Rattle.laziness.proofs.Bringing.{test, never}
use Rattle.tick_model.specs.declared.codes.TheConstants.{MOST_IN_GROUP}
use Rattle.tick_model.specs.Raids.{outbound_in}
use Rattle.tick_model.specs.Rules.{IsIn, same_flight, same_order, AreApart, AreDistinct, AreTogether, ArriveTogether, DoRise}
use Rattle.tick_model.specs.Universe.{QueueClass, Buildings, Researches, Yard, same_class, Fleet, Item}

-- Tests.

pub and-is : (a b : Bool) → a && b ≡ true → (a ≡ true) × (b ≡ true)
and-is true b is = (refl, is)
and-is false b is = absurd cc

pub and-from : (a b : Bool) → a ≡ true → b ≡ true → a && b ≡ true
and-from a b first second = rw first second

pub or-is : (a b : Bool) → a || b ≡ true → (a ≡ true) ⊎ (b ≡ true)
or-is true b is = inl refl
or-is false b is = inr is

pub or-second : (a b : Bool) → b ≡ true → a || b ≡ true
or-second true b is = refl
or-second false b is = is

pub or-first : (a b : Bool) → a ≡ true → a || b ≡ true
or-first a b is = rw is refl

-- a test that can't be passed fails
pub fails : (b : Bool) → (b ≡ true → ⊥) → b ≡ false
fails true never_true = absurd (never_true refl)
fails false never_true = refl

pub not-true : (b : Bool) → not b ≡ true → b ≡ false
not-true true is = absurd cc
not-true false is = refl

pub not-false : (b : Bool) → not b ≡ false → b ≡ true
not-false true is = refl
not-false false is = absurd cc

pub same_number : (n : ℕ) → eqb n n ≡ true
same_number n = grind (arith, nat_tests)

pub number-is : (m n : ℕ) → eqb m n ≡ true → m ≡ n
number-is m n is = grind (arith, nat_tests)

-- a cell is itself
pub cell-itself : (a : CellId) → same_cell a a ≡ true
cell-itself (Account a) = same_number a.k
cell-itself (Planet a) = rw (same_number a.g, same_number a.s, same_number a.p) refl

-- cells that are the same are one
pub cell-is : (a b : CellId) → same_cell a b ≡ true → a ≡ b
cell-is (Account a) (Account b) is = ap Account (player_is a b (number-is a.k b.k is))
cell-is (Account a) (Planet b) is = absurd cc
cell-is (Planet a) (Account b) is = absurd cc
cell-is (Planet a) (Planet b) is =
    let first = and-is (eqb a.g b.g && eqb a.s b.s) (eqb a.p b.p) is in
    let second = and-is (eqb a.g b.g) (eqb a.s b.s) first.0 in
    ap Planet (coord_is a b (number-is a.g b.g second.0) (number-is a.s b.s second.1) (number-is a.p b.p first.1))

-- players that are the same are one
pub player-from : (a b : Player) → same_player a b ≡ true → a ≡ b
player-from a b is = player_is a b (number-is a.k b.k is)

pub cell-from : (a b : CellId) → a ≡ b → same_cell a b ≡ true
cell-from a b same = subst (λ x. same_cell a x ≡ true) same (cell-itself a)

-- which of two cells is named first makes no difference
pub cell-turned : (a b : CellId) → same_cell a b ≡ same_cell b a
cell-turned a b =
    elim (test (same_cell a b)) [
      | inl same ↦ same ∙ sym (cell-from b a (sym (cell-is a b same)))
      | inr other ↦ other ∙ sym (fails (same_cell b a) (λ same. never (same_cell a b) (cell-from a b (sym (cell-is b a same))) other))
    ]

pub class-itself : (a : QueueClass) → same_class a a ≡ true
class-itself Buildings = refl
class-itself Researches = refl
class-itself Yard = refl

-- classes that are the same are one
pub class-is : (a b : QueueClass) → same_class a b ≡ true → a ≡ b
class-is Buildings Buildings is = refl
class-is Buildings Researches is = absurd cc
class-is Buildings Yard is = absurd cc
class-is Researches Buildings is = absurd cc
class-is Researches Researches is = refl
class-is Researches Yard is = absurd cc
class-is Yard Buildings is = absurd cc
class-is Yard Researches is = absurd cc
class-is Yard Yard is = refl

pub class-from : (a b : QueueClass) → a ≡ b → same_class a b ≡ true
class-from a b same = subst (λ x. same_class a x ≡ true) same (class-itself a)

-- which of two classes is named first makes no difference
pub class-turned : (a b : QueueClass) → same_class a b ≡ same_class b a
class-turned a b =
    elim (test (same_class a b)) [
      | inl same ↦ same ∙ sym (class-from b a (sym (class-is a b same)))
      | inr other ↦ other ∙ sym (fails (same_class b a) (λ same. never (same_class a b) (class-from a b (sym (class-is b a same))) other))
    ]

-- What is among others.

-- what stands among the first or the second stands among both
pub in-first : {A : Type 0} (x : A) (xs ys : List A) → IsIn x xs → IsIn x (xs ++ ys)
in-first x [] ys is = absurd is
in-first x (first ∷ xs) ys (inl same) = inl same
in-first x (first ∷ xs) ys (inr later) = inr (in-first x xs ys later)

pub in-second : {A : Type 0} (x : A) (xs ys : List A) → IsIn x ys → IsIn x (xs ++ ys)
in-second x [] ys is = is
in-second x (first ∷ xs) ys is = inr (in-second x xs ys is)

pub in-append : {A : Type 0} (x : A) (xs ys : List A) → IsIn x (xs ++ ys) → IsIn x xs ⊎ IsIn x ys
in-append x [] ys is = inr is
in-append x (first ∷ xs) ys (inl same) = inl (inl same)
in-append x (first ∷ xs) ys (inr later) = elim (in-append x xs ys later) [ inl is ↦ inl (inr is) | inr is ↦ inr is ]

in-kept : {A : Type 0} (b : Bool) (x first : A) (rest : List A) → IsIn x rest → IsIn x (cond b (first ∷ rest) rest)
in-kept true x first rest is = inr is
in-kept false x first rest is = is

-- what is among some and passes a test is among those that pass
pub in-filter : {A : Type 0} (p : A → Bool) (x : A) (xs : List A) → IsIn x xs → p x ≡ true → IsIn x (filter p xs)
in-filter p x [] is passes = absurd is
in-filter p x (first ∷ xs) (inl same) passes = let first_passes : p first ≡ true = ap p (sym same) ∙ passes in rw first_passes (inl same)
in-filter p x (first ∷ xs) (inr later) passes = in-kept (p first) x first (filter p xs) (in-filter p x xs later passes)

from-kept : {A : Type 0} (p : A → Bool) (x first : A) (xs : List A) (b : Bool) → p first ≡ b → (IsIn x (filter p xs) → IsIn x xs × (p x ≡ true))
    → IsIn x (cond b (first ∷ filter p xs) (filter p xs)) → IsIn x (first ∷ xs) × (p x ≡ true)
from-kept p x first xs true passes rest (inl same) = (inl same, ap p same ∙ passes)
from-kept p x first xs true passes rest (inr later) = let both = rest later in (inr both.0, both.1)
from-kept p x first xs false fails rest later = let both = rest later in (inr both.0, both.1)

-- and what is among those that pass is among them and passes
pub from-filter : {A : Type 0} (p : A → Bool) (x : A) (xs : List A) → IsIn x (filter p xs) → IsIn x xs × (p x ≡ true)
from-filter p x [] is = absurd is
from-filter p x (first ∷ xs) is = from-kept p x first xs (p first) refl (from-filter p x xs) is

all-in : {A : Type 0} (xs : List A) → All (λ y. IsIn y xs) xs
all-in [] = All-nil (λ y. IsIn y [])
all-in {A = A} (x ∷ xs) =
    let within = λ (y : A). IsIn y (x ∷ xs) in
    All-cons within x xs (inl refl) (All-weaker (λ y. IsIn y xs) within (λ y is. inr is) xs (all-in xs))

-- what a list contains is in it
pub in-contained : {A : Type 0} (xs : List A) (x : A) → Contains xs x → IsIn x xs
in-contained xs x has = All-contains (λ y. IsIn y xs) xs x (all-in xs) has

-- What filters leave.

-- if all pass, all stay
pub filter-all : {A : Type 0} (p : A → Bool) (xs : List A) → ((x : A) → IsIn x xs → p x ≡ true) → filter p xs ≡ xs
filter-all p [] all = refl
filter-all p (x ∷ xs) all = rw (all x (inl refl)) (ap (λ rest. x ∷ rest) (filter-all p xs (λ y is. all y (inr is))))

-- if none passes, none stays
pub filter-none : {A : Type 0} (p : A → Bool) (xs : List A) → ((x : A) → IsIn x xs → p x ≡ false) → filter p xs ≡ []
filter-none p [] none = refl
filter-none p (x ∷ xs) none = rw (none x (inl refl)) (filter-none p xs (λ y is. none y (inr is)))

both-kept : {A : Type 0} (p : A → Bool) (b c : Bool) (x : A) (rest : List A) → p x ≡ b
    → filter p (cond c (x ∷ rest) rest) ≡ cond (c && b) (x ∷ filter p rest) (filter p rest)
both-kept p b true x rest is = ap (λ a. cond a (x ∷ filter p rest) (filter p rest)) is
both-kept p b false x rest is = refl

-- one filter after another keeps what passes both tests
pub filter-both : {A : Type 0} (p q : A → Bool) (xs : List A) → filter p (filter q xs) ≡ filter (λ x. q x && p x) xs
filter-both p q [] = refl
filter-both p q (x ∷ xs) =
    both-kept p (p x) (q x) x (filter q xs) refl ∙ ap (λ rest. cond (q x && p x) (x ∷ rest) rest) (filter-both p q xs)

-- tests that agree on some elements keep the same of them
pub filter-alike : {A : Type 0} (p q : A → Bool) (xs : List A) → ((x : A) → IsIn x xs → p x ≡ q x) → filter p xs ≡ filter q xs
filter-alike p q [] alike = refl
filter-alike p q (x ∷ xs) alike =
    ap (λ b. cond b (x ∷ filter p xs) (filter p xs)) (alike x (inl refl))
    ∙ ap (λ rest. cond (q x) (x ∷ rest) rest) (filter-alike p q xs (λ y is. alike y (inr is)))

and-turned : (a b : Bool) → a && b ≡ b && a
and-turned true true = refl
and-turned true false = refl
and-turned false true = refl
and-turned false false = refl

-- which of two filters comes first makes no difference
pub filter-turned : {A : Type 0} (p q : A → Bool) (xs : List A) → filter p (filter q xs) ≡ filter q (filter p xs)
filter-turned p q xs =
    filter-both p q xs ∙ filter-alike (λ x. q x && p x) (λ x. p x && q x) xs (λ x is. and-turned (q x) (p x)) ∙ sym (filter-both q p xs)

idle-at : (a b : Bool) → (a ≡ true → b ≡ true) → b && a ≡ a
idle-at true b kept = rw (kept refl) refl
idle-at false true kept = refl
idle-at false false kept = refl

-- a filter that keeps all that a second one keeps makes no difference before it
pub filter-idle : {A : Type 0} (p q : A → Bool) (xs : List A) → ((x : A) → IsIn x xs → p x ≡ true → q x ≡ true) → filter p (filter q xs) ≡ filter p xs
filter-idle p q xs kept =
    filter-both p q xs ∙ filter-alike (λ x. q x && p x) p xs (λ x is. idle-at (p x) (q x) (kept x is))

-- Changes of each element.

-- if nothing changes, all stay
pub filter_map-all : {A : Type 0} (xs : List A) → filter_map Some xs ≡ xs
filter_map-all [] = refl
filter_map-all (x ∷ xs) = ap (λ rest. x ∷ rest) (filter_map-all xs)

gone-at : {A : Type 0} (p : A → Bool) (x : A) (rest : List A) (new : Option A) → p x ≡ false → ((y : A) → new ≡ Some y → p y ≡ true → p x ≡ true)
    → filter p (cons_option new rest) ≡ filter p rest
gone-at p x rest None out shrinks = refl
gone-at p x rest (Some y) out shrinks = let left : p y ≡ false = fails (p y) (λ is. never (p x) (shrinks y refl is) out) in rw left refl

-- if what passes stays, and nothing comes to pass, the filter keeps the same
pub filter-stays : {A : Type 0} (p : A → Bool) (h : A → Option A) (xs : List A) → ((x : A) → IsIn x xs → p x ≡ true → h x ≡ Some x)
    → ((x y : A) → h x ≡ Some y → p y ≡ true → p x ≡ true) → filter p (filter_map h xs) ≡ filter p xs
filter-stays p h [] stays shrinks = refl
filter-stays p h (x ∷ xs) stays shrinks =
    let same = filter-stays p h xs (λ y is. stays y (inr is)) shrinks in
    elim (test (p x)) [
      | inl passes ↦ ap (λ new. filter p (cons_option new (filter_map h xs))) (stays x (inl refl) passes) ∙ ap (λ rest. cond (p x) (x ∷ rest) rest) same
      | inr out ↦ gone-at p x (filter_map h xs) (h x) out (shrinks x) ∙ same ∙ sym (ap (λ b. cond b (x ∷ filter p xs) (filter p xs)) out)
    ]

changed-at : {A : Type 0} (p : A → Bool) (new : Option A) (xs ys : List A) → filter p xs ≡ filter p ys
    → filter p (cons_option new xs) ≡ filter p (cons_option new ys)
changed-at p None xs ys same = same
changed-at p (Some y) xs ys same = ap (λ rest. cond (p y) (y ∷ rest) rest) same

-- if nothing comes to pass, what passes after a change comes from what passed before
pub filter-changed : {A : Type 0} (p : A → Bool) (h : A → Option A) (xs : List A) → ((x y : A) → h x ≡ Some y → p y ≡ true → p x ≡ true)
    → filter p (filter_map h xs) ≡ filter p (filter_map h (filter p xs))
filter-changed p h [] shrinks = refl
filter-changed p h (x ∷ xs) shrinks =
    let same = filter-changed p h xs shrinks in
    let tested = λ (b : Bool). filter p (filter_map h (cond b (x ∷ filter p xs) (filter p xs))) in
    elim (test (p x)) [
      | inl passes ↦ changed-at p (h x) (filter_map h xs) (filter_map h (filter p xs)) same ∙ sym (ap tested passes)
      | inr out ↦ gone-at p x (filter_map h xs) (h x) out (shrinks x) ∙ same ∙ sym (ap tested out)
    ]

-- Items that are distinct.

neither : (a b : Bool) → a || b ≡ false → (a ≡ false) × (b ≡ false)
neither true b is = absurd cc
neither false b is = (refl, is)

pub none-any : {A : Type 0} (p : A → Bool) (x : A) (xs : List A) → list_any p xs ≡ false → IsIn x xs → p x ≡ false
none-any p x [] none is = absurd is
none-any p x (first ∷ xs) none (inl same) = ap p same ∙ (neither (p first) (list_any p xs) none).0
none-any p x (first ∷ xs) none (inr later) = none-any p x xs (neither (p first) (list_any p xs) none).1 later

pub any-none : {A : Type 0} (p : A → Bool) (xs : List A) → ((x : A) → IsIn x xs → p x ≡ false) → list_any p xs ≡ false
any-none p [] none = refl
any-none p (x ∷ xs) none = rw (none x (inl refl)) (any-none p xs (λ y is. none y (inr is)))

either-passes : (a b : Bool) → b ≡ true → a || b ≡ true
either-passes true b is = refl
either-passes false b is = is

-- what passes among some
pub any-in : {A : Type 0} (p : A → Bool) (xs : List A) → list_any p xs ≡ true → (x : A) × IsIn x xs × (p x ≡ true)
any-in p [] is = never false is refl
any-in p (x ∷ xs) is =
    elim (test (p x)) [
      | inl passes ↦ (x, inl refl, passes)
      | inr out ↦
          (let rest : list_any p xs ≡ true = sym (ap (λ b. b || list_any p xs) out) ∙ is in
          let found = any-in p xs rest in
          (found.0, inr found.1, found.2))
    ]

pub in-any : {A : Type 0} (p : A → Bool) (x : A) (xs : List A) → IsIn x xs → p x ≡ true → list_any p xs ≡ true
in-any p x [] is passes = absurd is
in-any p x (first ∷ xs) (inl same) passes = ap (λ b. b || list_any p xs) (ap p (sym same) ∙ passes)
in-any p x (first ∷ xs) (inr later) passes = either-passes (p first) (list_any p xs) (in-any p x xs later passes)

pub number-turned : (m n : ℕ) → eqb m n ≡ eqb n m
number-turned m n = grind (arith, nat_tests)

-- which of two orders is named first makes no difference
pub order-turned : (a b : Item) → same_order a b ≡ same_order b a
order-turned a b = λ i. class-turned a.class b.class i && number-turned a.number b.number i

-- among distinct items, two of one class with the same number are one
pub distinct-one : (xs : List Item) (a b : Item) → AreDistinct xs → IsIn a xs → IsIn b xs → same_order a b ≡ true → a ≡ b
distinct-one [] a b distinct has_a has_b same = absurd has_a
distinct-one (x ∷ xs) a b distinct (inl first) (inl second) same = first ∙ sym second
distinct-one (x ∷ xs) a b distinct (inl first) (inr second) same =
    never (same_order a b) same (ap (λ y. same_order y b) first ∙ none-any (same_order x) b xs distinct.0 second)
distinct-one (x ∷ xs) a b distinct (inr first) (inl second) same =
    never (same_order a b) same (ap (same_order a) second ∙ order-turned a x ∙ none-any (same_order x) a xs distinct.0 first)
distinct-one (x ∷ xs) a b distinct (inr first) (inr second) same = distinct-one xs a b distinct.1 first second same

distinct-kept : (b : Bool) (x : Item) (xs : List Item) → list_any (same_order x) xs ≡ false → AreDistinct xs → AreDistinct (cond b (x ∷ xs) xs)
distinct-kept true x xs apart distinct = (apart, distinct)
distinct-kept false x xs apart distinct = distinct

-- some of distinct items are distinct
pub distinct-filter : (p : Item → Bool) (xs : List Item) → AreDistinct xs → AreDistinct (filter p xs)
distinct-filter p [] distinct = tt
distinct-filter p (x ∷ xs) distinct =
    let apart = any-none (same_order x) (filter p xs) (λ y is. none-any (same_order x) y xs distinct.0 (from-filter p y xs is).0) in
    distinct-kept (p x) x (filter p xs) apart (distinct-filter p xs distinct.1)

-- distinct items and others that are distinct from these and among each other are distinct
pub distinct-append : (xs ys : List Item) → AreDistinct xs → AreDistinct ys → ((a b : Item) → IsIn a xs → IsIn b ys → same_order a b ≡ false) → AreDistinct (xs ++ ys)
distinct-append [] ys first second apart = second
distinct-append (x ∷ xs) ys first second apart =
    let rest = distinct-append xs ys first.1 second (λ a b has_a has_b. apart a b (inr has_a) has_b) in
    let none : (y : Item) → IsIn y (xs ++ ys) → same_order x y ≡ false = λ y is. elim (in-append y xs ys is) [
      | inl before ↦ none-any (same_order x) y xs first.0 before
      | inr after ↦ apart x y (inl refl) after
    ] in
    (any-none (same_order x) (xs ++ ys) none, rest)

-- Fleets that bear different numbers.

-- two that bear the same number are one
pub fleet-one : (xs : List Fleet) (a b : Fleet) → AreApart xs → IsIn a xs → IsIn b xs → same_flight a b ≡ true → a ≡ b
fleet-one [] a b apart first second same = absurd first
fleet-one (x ∷ xs) a b apart (inl first) (inl second) same = first ∙ sym second
fleet-one (x ∷ xs) a b apart (inl first) (inr second) same =
    never (same_flight a b) same (ap (λ f. same_flight f b) first ∙ none-any (same_flight x) b xs apart.0 second)
fleet-one (x ∷ xs) a b apart (inr first) (inl second) same =
    never (same_flight a b) same (ap (same_flight a) second ∙ number-turned a.number x.number ∙ none-any (same_flight x) a xs apart.0 first)
fleet-one (x ∷ xs) a b apart (inr first) (inr second) same = fleet-one xs a b apart.1 first second same

-- a fleet that is sent bears another number than all before
pub apart-append : (xs : List Fleet) (new : Fleet) → AreApart xs → ((a : Fleet) → IsIn a xs → same_flight a new ≡ false) → AreApart (xs ++ new ∷ [])
apart-append [] new apart other = (refl, tt)
apart-append (x ∷ xs) new apart other =
    let none : (y : Fleet) → IsIn y (xs ++ new ∷ []) → same_flight x y ≡ false = λ y is. elim (in-append y xs (new ∷ []) is) [
      | inl before ↦ none-any (same_flight x) y xs apart.0 before
      | inr last ↦ elim last [ inl same ↦ ap (same_flight x) same ∙ other x (inl refl) | inr nothing ↦ absurd nothing ]
    ] in
    (any-none (same_flight x) (xs ++ new ∷ []) none, apart-append xs new apart.1 (λ a is. other a (inr is)))

from-changed_at : {A : Type 0} (h : A → Option A) (y x : A) (xs : List A) (o : Option A) → h x ≡ o → (IsIn y (filter_map h xs) → (z : A) × IsIn z xs × (h z ≡ Some y))
    → IsIn y (cons_option o (filter_map h xs)) → (z : A) × IsIn z (x ∷ xs) × (h z ≡ Some y)
from-changed_at h y x xs None becomes rest is = let found = rest is in (found.0, inr found.1, found.2)
from-changed_at h y x xs (Some new) becomes rest (inl same) = (x, inl refl, becomes ∙ ap Some (sym same))
from-changed_at h y x xs (Some new) becomes rest (inr later) = let found = rest later in (found.0, inr found.1, found.2)

in-more : {A : Type 0} (o : Option A) (y : A) (rest : List A) → IsIn y rest → IsIn y (cons_option o rest)
in-more None y rest is = is
in-more (Some x) y rest is = inr is

-- what comes of a change of each
pub from-changed : {A : Type 0} (h : A → Option A) (y : A) (xs : List A) → IsIn y (filter_map h xs) → (x : A) × IsIn x xs × (h x ≡ Some y)
from-changed h y [] is = absurd is
from-changed h y (x ∷ xs) is = from-changed_at h y x xs (h x) refl (from-changed h y xs) is

pub in-changed : {A : Type 0} (h : A → Option A) (x y : A) (xs : List A) → IsIn x xs → h x ≡ Some y → IsIn y (filter_map h xs)
in-changed h x y [] is becomes = absurd is
in-changed h x y (first ∷ xs) (inl same) becomes =
    subst (λ o. IsIn y (cons_option o (filter_map h xs))) (sym becomes ∙ ap h same) (inl refl)
in-changed h x y (first ∷ xs) (inr later) becomes = in-more (h first) y (filter_map h xs) (in-changed h x y xs later becomes)

apart-changed_at : (h : Fleet → Option Fleet) (x : Fleet) (xs : List Fleet) (o : Option Fleet) → h x ≡ o → ((x y : Fleet) → h x ≡ Some y → y.number ≡ x.number)
    → list_any (same_flight x) xs ≡ false → AreApart (filter_map h xs) → AreApart (cons_option o (filter_map h xs))
apart-changed_at h x xs None becomes keeps other rest = rest
apart-changed_at h x xs (Some new) becomes keeps other rest =
    let number = keeps x new becomes in
    let none : (y : Fleet) → IsIn y (filter_map h xs) → same_flight new y ≡ false = λ y is.
    let found = from-changed h y xs is in
    (λ i. eqb (number i) (keeps found.0 y found.2 i)) ∙ none-any (same_flight x) found.0 xs other found.1 in
    (any-none (same_flight new) (filter_map h xs) none, rest)

-- fleets that keep their numbers stay apart
pub apart-changed : (h : Fleet → Option Fleet) (xs : List Fleet) → ((x y : Fleet) → h x ≡ Some y → y.number ≡ x.number) → AreApart xs → AreApart (filter_map h xs)
apart-changed h [] keeps apart = tt
apart-changed h (x ∷ xs) keeps apart =
    apart-changed_at h x xs (h x) refl keeps apart.0 (apart-changed h xs keeps apart.1)

-- Numbers that rise.

rise-changed_at : (h : Fleet → Option Fleet) (x : Fleet) (xs : List Fleet) (o : Option Fleet) → h x ≡ o → ((x y : Fleet) → h x ≡ Some y → y.number ≡ x.number)
    → ((y : Fleet) → IsIn y xs → x.number < y.number) → DoRise (filter_map h xs) → DoRise (cons_option o (filter_map h xs))
rise-changed_at h x xs None becomes keeps above rest = rest
rise-changed_at h x xs (Some new) becomes keeps above rest = (
  λ y is.
      let found = from-changed h y xs is in
      let first = keeps x new becomes in
      let second = keeps found.0 y found.2 in
      let less = above found.0 found.1 in
      omega (arith, first, second, less),
  rest,
)

pub rise-changed : (h : Fleet → Option Fleet) (xs : List Fleet) → ((x y : Fleet) → h x ≡ Some y → y.number ≡ x.number) → DoRise xs → DoRise (filter_map h xs)
rise-changed h [] keeps rise = tt
rise-changed h (x ∷ xs) keeps rise = rise-changed_at h x xs (h x) refl keeps rise.0 (rise-changed h xs keeps rise.1)

pub rise-append : (xs : List Fleet) (new : Fleet) → DoRise xs → ((a : Fleet) → IsIn a xs → a.number < new.number) → DoRise (xs ++ new ∷ [])
rise-append [] new rise below = (λ y is. absurd is, tt)
rise-append (x ∷ xs) new rise below = (
  λ y is. elim (in-append y xs (new ∷ []) is) [
    | inl before ↦ rise.0 y before
    | inr last ↦ elim last [ inl same ↦ subst (λ (f : Fleet). x.number < f.number) (sym same) (below x (inl refl)) | inr nothing ↦ absurd nothing ]
  ],
  rise-append xs new rise.1 (λ a is. below a (inr is)),
)

-- No more fly out in a group if those that do did before.

few-at : (p : Fleet → Bool) (h : Fleet → Option Fleet) (x : Fleet) (xs : List Fleet) (o : Option Fleet) → h x ≡ o → ((x y : Fleet) → h x ≡ Some y → p y ≡ true → p x ≡ true)
    → length (filter p (filter_map h xs)) ≤ length (filter p xs) → length (filter p (cons_option o (filter_map h xs))) ≤ length (cond (p x) (x ∷ filter p xs) (filter p xs))
few-at p h x xs None becomes shrinks rest =
    elim (p x) as (λ b. length (filter p (filter_map h xs)) ≤ length (cond b (x ∷ filter p xs) (filter p xs))) [ true ↦ omega (arith, rest) | false ↦ rest ]
few-at p h x xs (Some y) becomes shrinks rest =
    elim (test (p y)) [
      | inl passes ↦
          (let before = shrinks x y becomes passes in
          subst (λ b. length (cond b (y ∷ filter p (filter_map h xs)) (filter p (filter_map h xs))) ≤ length (cond (p x) (x ∷ filter p xs) (filter p xs))) (sym passes)
          (subst (λ b. length (y ∷ filter p (filter_map h xs)) ≤ length (cond b (x ∷ filter p xs) (filter p xs))) (sym before) (omega (arith, rest))))
      | inr fails_it ↦
          subst (λ b. length (cond b (y ∷ filter p (filter_map h xs)) (filter p (filter_map h xs))) ≤ length (cond (p x) (x ∷ filter p xs) (filter p xs))) (sym fails_it)
          (elim (p x) as (λ b. length (filter p (filter_map h xs)) ≤ length (cond b (x ∷ filter p xs) (filter p xs))) [ true ↦ omega (arith, rest) | false ↦ rest ])
    ]

fewer-changed : (p : Fleet → Bool) (h : Fleet → Option Fleet) (xs : List Fleet) → ((x y : Fleet) → h x ≡ Some y → p y ≡ true → p x ≡ true) → length (filter p (filter_map h xs)) ≤ length (filter p xs)
fewer-changed p h [] shrinks = omega arith
fewer-changed p h (x ∷ xs) shrinks = few-at p h x xs (h x) refl shrinks (fewer-changed p h xs shrinks)

pub few-changed : (h : Fleet → Option Fleet) (xs : List Fleet) → ((x y : Fleet) → h x ≡ Some y → y.outbound ≡ true → x ≡ y) → ((group : ℕ) → length (outbound_in group xs) ≤ MOST_IN_GROUP)
    → (group : ℕ) → length (outbound_in group (filter_map h xs)) ≤ MOST_IN_GROUP
few-changed h xs stays few group =
    let flies = λ (fleet : Fleet). fleet.outbound && eqb fleet.group group in
    let less = fewer-changed flies h xs (λ x y becomes passes.
    let out = (and-is y.outbound (eqb y.group group) passes).0 in
    subst (λ (f : Fleet). (f.outbound && eqb f.group group) ≡ true) (sym (stays x y becomes out)) passes) in
    let before = few group in
    omega (arith, less, before)

-- one more has room
few-one : (p : Fleet → Bool) (new : Fleet) (before : ℕ) → before ≤ MOST_IN_GROUP → (p new ≡ true → before < MOST_IN_GROUP) → before + length (filter p (new ∷ [])) ≤ MOST_IN_GROUP
few-one p new before few room =
    elim (test (p new)) [
      | inl passes ↦ (let less = room passes in subst (λ b. before + length (cond b (new ∷ []) []) ≤ MOST_IN_GROUP) (sym passes) (omega (arith, less)))
      | inr other ↦ subst (λ b. before + length (cond b (new ∷ []) []) ≤ MOST_IN_GROUP) (sym other) (omega (arith, few))
    ]

pub few-append : (xs : List Fleet) (new : Fleet) → ((group : ℕ) → length (outbound_in group xs) ≤ MOST_IN_GROUP) → length (outbound_in new.group xs) < MOST_IN_GROUP
    → (group : ℕ) → length (outbound_in group (xs ++ new ∷ [])) ≤ MOST_IN_GROUP
few-append xs new few room group =
    let flies = λ (fleet : Fleet). fleet.outbound && eqb fleet.group group in
    let split = ap length (filter-append flies xs (new ∷ [])) ∙ length-append (filter flies xs) (filter flies (new ∷ [])) in
    let one = few-one flies new (length (filter flies xs)) (few group) (λ passes.
    let same = number-is new.group group (and-is new.outbound (eqb new.group group) passes).1 in
    subst (λ g. length (outbound_in g xs) < MOST_IN_GROUP) same room) in
    omega (arith, split, one)

turned-together : (a b : Fleet) → ArriveTogether a b → ArriveTogether b a
turned-together a b together out_b out_a group = let both = together out_a out_b (sym group) in (sym both.0, sym both.1)

-- A fleet that arrives together with those of its group joins them.
pub together-append : (xs : List Fleet) (new : Fleet) → AreTogether xs → ((a : Fleet) → IsIn a xs → ArriveTogether a new) → AreTogether (xs ++ new ∷ [])
together-append xs new together joins a b is_a is_b =
    elim (in-append a xs (new ∷ []) is_a) [
      | inl a_before ↦ elim (in-append b xs (new ∷ []) is_b) [
        | inl b_before ↦ together a b a_before b_before
        | inr b_last ↦ elim b_last [ inl same ↦ subst (ArriveTogether a) (sym same) (joins a a_before) | inr nothing ↦ absurd nothing ]
      ]
      | inr a_last ↦ elim a_last [
        | inl first ↦ elim (in-append b xs (new ∷ []) is_b) [
          | inl b_before ↦ subst (λ f. ArriveTogether f b) (sym first) (turned-together b new (joins b b_before))
          | inr b_last ↦ elim b_last [
            | inl second ↦ (λ out_a out_b group. let same = first ∙ sym second in (ap (λ (f : Fleet). f.target) same, ap (λ (f : Fleet). f.second) same))
            | inr nothing ↦ absurd nothing
          ]
        ]
        | inr nothing ↦ absurd nothing
      ]
    ]

-- Fleets of a group still arrive together if those that fly out are as before.
pub together-changed : (h : Fleet → Option Fleet) (xs : List Fleet) → ((x y : Fleet) → h x ≡ Some y → y.outbound ≡ true → x ≡ y) → AreTogether xs → AreTogether (filter_map h xs)
together-changed h xs stays together a b is_a is_b out_a out_b group =
    let first = from-changed h a xs is_a in
    let second = from-changed h b xs is_b in
    let same_a = stays first.0 a first.2 out_a in
    let same_b = stays second.0 b second.2 out_b in
    together a b (subst (λ f. IsIn f xs) same_a first.1) (subst (λ f. IsIn f xs) same_b second.1) out_a out_b group
