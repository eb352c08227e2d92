-- How a level that rises, or an order, counts in lists.
use Rattle.std.proofs.Common.{◌≡◌, ◌≢◌, ℕ, zero, suc, ◌+◌, ◌-◌, ◌<◌, ◌≤◌, inl, inr, Bool, true, false, cond, eqb, nat_le, List, [], ◌∷◌, ◌++◌, length, sum, arith, refl, ap, ◌∙◌, sym, subst, get_or, get_or-set_other, le_refl}
use Rattle.std.specs.Prelude.{IsTrue, slice_index, slice_set, ◌==◌, ◌||◌, ◌&&◌, not, nat_lt}
use Rattle.std.specs.List.{position_or_len}
use Rattle.std.proofs.lemmas.Bool.{cases_eq}
use Rattle.std.proofs.lemmas.Bool.Decides.{nat_tests}
use Rattle.std.proofs.lemmas.List.Sums.{sum_by-cons, sum_by_push}
use Rattle.catalog.specs.Classes.{is_building, is_technology}
use Rattle.catalog.specs.Kinds.{kind_number, place_in}
use Rattle.catalog.specs.declared.classes.TheConstants.{BUILDINGS, TECHNOLOGIES, UNIT_KINDS}
use Rattle.catalog.specs.declared.kind.Kind.{Kind}
use Rattle.catalog.specs.declared.kind.Kind.TheVariants.{MetalMine}
use Rattle.catalog.specs.declared.kind.TheConstants.{KINDS}
use Rattle.tick_model.specs.Limits.{ordered_units}
use Rattle.tick_model.specs.Refusals.{is_dome, queued}
use Rattle.tick_model.specs.Universe.{Item}
use Rattle.tick_model.proofs.Follows.{Follows, IsOrderOf}
use Rattle.tick_model.proofs.Lists.{number-is}

-- A kind is known by its number.
kind_back : (kind : Kind) → get_or KINDS (place_in KINDS kind) MetalMine ≡ kind
kind_back MetalMine = refl
kind_back _ = refl

pub one-kind : (first second : Kind) → kind_number first ≡ kind_number second → first ≡ second
one-kind first second same =
    sym (kind_back first) ∙ ap (λ (n : ℕ). get_or KINDS (position_or_len (λ other. kind_number other == n) KINDS) MetalMine) same ∙ kind_back second

-- Each kind of a class has a place in its list.

follows-if : (a b : Bool) → IsTrue (not a || b) → a ≡ true → IsTrue b
follows-if true b either holds = either
follows-if false b either holds = absurd cc

building-listed : (kind : Kind) → IsTrue (not (is_building kind) || nat_lt (place_in BUILDINGS kind) 11)
building-listed MetalMine = refl
building-listed _ = refl

pub building-place : (kind : Kind) → is_building kind ≡ true → place_in BUILDINGS kind < length BUILDINGS
building-place kind is = let below = follows-if _ _ (building-listed kind) is in let least : place_in BUILDINGS kind < 11 = grind (arith, nat_tests) in omega (arith, least)

technology-listed : (kind : Kind) → IsTrue (not (is_technology kind) || nat_lt (place_in TECHNOLOGIES kind) 14)
technology-listed MetalMine = refl
technology-listed _ = refl

pub technology-place : (kind : Kind) → is_technology kind ≡ true → place_in TECHNOLOGIES kind < length TECHNOLOGIES
technology-place kind is = let below = follows-if _ _ (technology-listed kind) is in let least : place_in TECHNOLOGIES kind < 14 = grind (arith, nat_tests) in omega (arith, least)

dome-listed : (kind : Kind) → IsTrue (not (is_dome kind) || (nat_lt (place_in UNIT_KINDS kind) 22 && nat_lt 12 (place_in UNIT_KINDS kind)))
dome-listed MetalMine = refl
dome-listed _ = refl

-- that of a dome is behind the ships
pub dome-place : (kind : Kind) → is_dome kind ≡ true → (place_in UNIT_KINDS kind < length UNIT_KINDS) × (13 ≤ place_in UNIT_KINDS kind)
dome-place kind is =
    let both = follows-if _ _ (dome-listed kind) is in
    let low : place_in UNIT_KINDS kind < 22 = grind (arith, nat_tests) in
    let high : 12 < place_in UNIT_KINDS kind = grind (arith, nat_tests) in
    (omega (arith, low), omega (arith, high))

-- 1 if two kinds are one, else 0
abbrev pub one_if : Kind → Kind → ℕ
one_if one other = cond (kind_number one == kind_number other) 1 0

pub ones : (one other : Kind) → kind_number one ≡ kind_number other → one_if one other ≡ 1
ones one other same = grind (arith, nat_tests)

-- two places are the first one, or both are later
place-step : {A : Type 0} (x y : Bool) (m n k : ℕ) → cond (not x) (1 + m) 0 ≡ cond (not y) (1 + n) 0 → cond (not y) (1 + n) 0 < suc k → (x ≡ true → y ≡ true → A) → (m ≡ n → n < k → A) → A
place-step true true m n k same within here later = here refl refl
place-step true false m n k same within here later = absurd (omega (arith, same))
place-step false true m n k same within here later = absurd (omega (arith, same))
place-step false false m n k same within here later = later (omega (arith, same)) (omega (arith, within))

-- kinds at one place are one kind
pub same-place : (a b : ℕ) (kinds : List Kind) → position_or_len (λ k. kind_number k == b) kinds < length kinds
    → position_or_len (λ k. kind_number k == a) kinds ≡ position_or_len (λ k. kind_number k == b) kinds → a ≡ b
same-place a b [] within same = absurd (omega (arith, within))
same-place a b (first ∷ kinds) within same =
    place-step (eqb (kind_number first) a) (eqb (kind_number first) b) (position_or_len (λ k. kind_number k == a) kinds) (position_or_len (λ k. kind_number k == b) kinds) (length kinds) same within
    (λ is_a is_b. sym (number-is (kind_number first) a is_a) ∙ number-is (kind_number first) b is_b)
    (λ later rest. same-place a b kinds rest later)

-- a number that is written is there, if its place is
pub set-here : (ns : List ℕ) (place n : ℕ) → slice_index (slice_set ns place n) place ≤ n
set-here [] place n = omega arith
set-here (first ∷ later) zero n = le_refl n
set-here (first ∷ later) (suc place) n = set-here later place n

-- One more of a kind adds to no other kind.
pub raised-most : (kinds : List Kind) (ns : List ℕ) (k kind : Kind) → place_in kinds kind < length kinds
    → slice_index (slice_set ns (place_in kinds k) (slice_index ns (place_in kinds k) + 1)) (place_in kinds kind) ≤ slice_index ns (place_in kinds kind) + one_if k kind
raised-most kinds ns k kind within =
    let p = place_in kinds k in
    let q = place_in kinds kind in
    let here : p ≡ q → slice_index (slice_set ns p (slice_index ns p + 1)) q ≤ slice_index ns q + one_if k kind = λ same.
    let one = ones k kind (same-place (kind_number k) (kind_number kind) kinds within same) in
    subst (λ (n : ℕ). slice_index (slice_set ns p (slice_index ns p + 1)) n ≤ slice_index ns n + one_if k kind) same
    (let most = set-here ns p (slice_index ns p + 1) in omega (arith, most, one)) in
    let there : p ≢ q → slice_index (slice_set ns p (slice_index ns p + 1)) q ≤ slice_index ns q + one_if k kind = λ other.
    let kept : slice_index (slice_set ns p (slice_index ns p + 1)) q ≡ slice_index ns q = get_or-set_other ns _ _ _ _ (λ same. other (sym same)) in
    omega (arith, kept) in
    elim (cases_eq p q) [ inl same ↦ here same | inr other ↦ there other ]

-- and takes from none
pub raised-least : (ns : List ℕ) (place other : ℕ) → slice_index ns other ≤ slice_index (slice_set ns place (slice_index ns place + 1)) other
raised-least [] place other = omega arith
raised-least (n ∷ ns) zero zero = let more : n ≤ n + 1 = omega arith in more
raised-least (n ∷ ns) zero (suc other) = le_refl (slice_index ns other)
raised-least (n ∷ ns) (suc place) zero = le_refl n
raised-least (n ∷ ns) (suc place) (suc other) = raised-least ns place other

sum-cons : (x : ℕ) (xs : List ℕ) → sum (x ∷ xs) ≡ x + sum xs
sum-cons x xs = sum_by-cons (λ (n : ℕ). n) x xs

-- and no more than one in all
pub raised-sum : (ns : List ℕ) (place : ℕ) → sum (slice_set ns place (slice_index ns place + 1)) ≤ sum ns + 1
raised-sum [] place = omega arith
raised-sum (n ∷ ns) zero = let new = sum-cons (n + 1) ns in let old = sum-cons n ns in omega (arith, new, old)
raised-sum (n ∷ ns) (suc place) =
    let new = sum-cons n (slice_set ns place (slice_index ns place + 1)) in
    let old = sum-cons n ns in
    let rest = raised-sum ns place in
    omega (arith, new, old, rest)

-- the queue that an event leaves is no longer
pub follows-shorter : (later queue : List Item) → Follows later queue → length queue ≤ length later
follows-shorter [] [] follows = omega arith
follows-shorter [] (item ∷ more) follows = absurd follows
follows-shorter (old ∷ later) [] follows = omega arith
follows-shorter (old ∷ later) (item ∷ more) (inl both) = let rest : length more ≡ length later = ap length both.1 in omega (arith, rest)
follows-shorter (old ∷ later) (item ∷ more) (inr skipped) = let rest = follows-shorter later (item ∷ more) skipped in omega (arith, rest)

-- How many of a kind are queued.

pub queued-first : (kind : Kind) (item : Item) (later : List Item) → queued kind (item ∷ later) ≡ one_if item.kind kind + queued kind later
queued-first kind item later = sum_by-cons (λ (x : Item). one_if x.kind kind) item later

pub queued-last : (kind : Kind) (items : List Item) (item : Item) → queued kind (items ++ item ∷ []) ≡ queued kind items + one_if item.kind kind
queued-last kind items item = sum_by_push (λ (x : Item). one_if x.kind kind) items item

-- how many units of a kind a batch is to build
abbrev pub batch_units : Kind → Item → ℕ
batch_units kind batch = cond (kind_number batch.kind == kind_number kind) batch.left 0

pub ordered-first : (kind : Kind) (item : Item) (later : List Item) → ordered_units kind (item ∷ later) ≡ batch_units kind item + ordered_units kind later
ordered-first kind item later = sum_by-cons (batch_units kind) item later

pub ordered-last : (kind : Kind) (items : List Item) (item : Item) → ordered_units kind (items ++ item ∷ []) ≡ ordered_units kind items + batch_units kind item
ordered-last kind items item = sum_by_push (batch_units kind) items item

order-one : (kind : Kind) (old new : Item) → IsOrderOf old new → one_if new.kind kind ≡ one_if old.kind kind
order-one kind old new order = ap (λ k. one_if k kind) order.kind

-- what follows items has no more of a kind
pub follows-queued : (kind : Kind) (later queue : List Item) → Follows later queue → queued kind queue ≤ queued kind later
follows-queued kind [] [] follows = omega arith
follows-queued kind [] (first ∷ more) follows = absurd follows
follows-queued kind (old ∷ later) [] follows = omega arith
follows-queued kind (old ∷ later) (first ∷ more) (inl both) =
    let new = queued-first kind first more in
    let before = queued-first kind old later in
    let same = order-one kind old first both.0 in
    let rest : queued kind more ≡ queued kind later = ap (queued kind) both.1 in
    omega (arith, new, before, same, rest)
follows-queued kind (old ∷ later) (first ∷ more) (inr skipped) =
    let before = queued-first kind old later in
    let rest = follows-queued kind later (first ∷ more) skipped in
    omega (arith, before, rest)

-- none are ordered if no batch is of the kind
pub none-ordered : (kind : Kind) (batches : List Item) → queued kind batches ≡ 0 → ordered_units kind batches ≡ 0
none-ordered kind [] none = refl
none-ordered kind (batch ∷ later) none =
    let counted = queued-first kind batch later in
    let ordered = ordered-first kind batch later in
    let rest = none-ordered kind later (omega (arith, counted, none)) in
    let other : one_if batch.kind kind ≡ 0 = omega (arith, counted, none) in
    let free : batch_units kind batch ≡ 0 = free-batch (kind_number batch.kind == kind_number kind) batch.left other in
    omega (arith, ordered, rest, free)
  where
    free-batch : (b : Bool) (left : ℕ) → cond {A = ℕ} b 1 0 ≡ 0 → cond b left 0 ≡ 0
    free-batch true left is = absurd (omega (arith, is))
    free-batch false left is = refl
