-- What is among the elements of a list, and what is found there.
use Rattle.std.proofs.Common.{◌≡◌, zero, suc, Bool, true, false, cond, List, [], ◌∷◌, None, Some, inl, inr, arith, refl, ap, ◌∙◌, sym, subst}
use Rattle.std.specs.Prelude.{find, map, AllPairs}
use Rattle.std.specs.List.{Contains, flat_map}
use Rattle.laziness.proofs.Bringing.{never}
use Rattle.tick_model.specs.Rules.{IsIn}
use Rattle.tick_model.proofs.Lists.{in-append}

-- what stands at a place of a list is among it
pub is-among : {A : Type 0} (x : A) (xs : List A) → Contains xs x → IsIn x xs
is-among x [] (k, below, same) = absurd (omega (arith, below))
is-among x (first ∷ xs) (zero, below, same) = inl (sym same)
is-among x (first ∷ xs) (suc k, below, same) = inr (is-among x xs (k, (omega (arith, below)), same))

-- and what is among a list stands at a place of it
pub has-place : {A : Type 0} (x : A) (xs : List A) → IsIn x xs → Contains xs x
has-place x [] is = absurd is
has-place x (first ∷ xs) (inl same) = (0, (omega arith), sym same)
has-place x (first ∷ xs) (inr later) = let found = has-place x xs later in (suc found.0, (omega (arith, found.1)), found.2)

pub in-map : {A B : Type 0} (f : A → B) (x : A) (xs : List A) → IsIn x xs → IsIn (f x) (map f xs)
in-map f x [] is = absurd is
in-map f x (first ∷ xs) (inl same) = inl (ap f same)
in-map f x (first ∷ xs) (inr later) = inr (in-map f x xs later)

-- what is among the values comes from something
pub from-map : {A B : Type 0} (f : A → B) (y : B) (xs : List A) → IsIn y (map f xs) → (x : A) × IsIn x xs × (y ≡ f x)
from-map f y [] is = absurd is
from-map f y (first ∷ xs) (inl same) = (first, inl refl, same)
from-map f y (first ∷ xs) (inr later) = let found = from-map f y xs later in (found.0, inr found.1, found.2)

-- what is among the lists of all comes from one of them
pub from-flat : {A B : Type 0} (f : A → List B) (y : B) (xs : List A) → IsIn y (flat_map f xs) → (x : A) × IsIn x xs × IsIn y (f x)
from-flat f y [] is = absurd is
from-flat f y (first ∷ xs) is =
    elim (in-append y (f first) (flat_map f xs) is) [
      | inl here ↦ (first, inl refl, here)
      | inr later ↦ let found = from-flat f y xs later in (found.0, inr found.1, found.2)
    ]

-- of a list whose pairs hold the first holds with each later one, and the pairs of the others hold
pub pairs-first : {A : Type 0} (R : A → A → Type 0) (x y : A) (xs : List A) → AllPairs R (x ∷ xs) → IsIn y xs → R x y
pairs-first R x y xs pairs is =
    let found = has-place y xs is in
    subst (R x) found.2 (pairs 0 (suc found.0) y (omega arith) (omega (arith, found.1)))

pub pairs-later : {A : Type 0} (R : A → A → Type 0) (x : A) (xs : List A) → AllPairs R (x ∷ xs) → AllPairs R xs
pairs-later R x xs pairs = λ i j d first below. pairs (suc i) (suc j) d (omega arith) (omega arith)

-- in a list that rises by a name two elements of one name are one
pub name-once : {A K : Type 0} (name : A → K) (before : K → K → Bool) → ((k : K) → before k k ≡ false) → (x y : A) (xs : List A)
    → AllPairs (λ a b. before (name a) (name b) ≡ true) xs → IsIn x xs → IsIn y xs → name x ≡ name y → x ≡ y
name-once name before apart x y [] rises has_x has_y same = absurd has_x
name-once name before apart x y (first ∷ xs) rises (inl one) (inl other) same = one ∙ sym other
name-once name before apart x y (first ∷ xs) rises (inl one) (inr other) same =
    let below = pairs-first (λ a b. before (name a) (name b) ≡ true) first y xs rises other in
    let here : before (name y) (name y) ≡ true = subst (λ k. before k (name y) ≡ true) (ap name (sym one) ∙ same) below in
    never (before (name y) (name y)) here (apart (name y))
name-once name before apart x y (first ∷ xs) rises (inr one) (inl other) same =
    let below = pairs-first (λ a b. before (name a) (name b) ≡ true) first x xs rises one in
    let here : before (name x) (name x) ≡ true = subst (λ k. before k (name x) ≡ true) (ap name (sym other) ∙ sym same) below in
    never (before (name x) (name x)) here (apart (name x))
name-once name before apart x y (first ∷ xs) rises (inr one) (inr other) same =
    name-once name before apart x y xs (pairs-later (λ a b. before (name a) (name b) ≡ true) first xs rises) one other same

found-at : {A : Type 0} (p : A → Bool) (x first : A) (xs : List A) (b : Bool) → p first ≡ b → p x ≡ true → (p first ≡ true → first ≡ x)
    → ((x ≡ first) → p first ≡ true) → find p xs ≡ Some x → cond b (Some first) (find p xs) ≡ Some x
found-at p x first xs true is passes one here rest = ap Some (one is)
found-at p x first xs false is passes one here rest = rest

-- the only element that passes a test is found
pub finds : {A : Type 0} (p : A → Bool) (x : A) (xs : List A) → IsIn x xs → p x ≡ true → ((y : A) → IsIn y xs → p y ≡ true → y ≡ x) → find p xs ≡ Some x
finds p x [] is passes one = absurd is
finds p x (first ∷ xs) (inl same) passes one = let here : p first ≡ true = ap p (sym same) ∙ passes in rw here (ap Some (sym same))
finds p x (first ∷ xs) (inr later) passes one =
    found-at p x first xs (p first) refl passes (one first (inl refl)) (λ same. ap p (sym same) ∙ passes) (finds p x xs later passes (λ y is. one y (inr is)))

-- nothing is found if nothing passes
pub finds-none : {A : Type 0} (p : A → Bool) (xs : List A) → ((x : A) → IsIn x xs → p x ≡ false) → find p xs ≡ None
finds-none p [] none = refl
finds-none p (x ∷ xs) none = rw (none x (inl refl)) (finds-none p xs (λ y is. none y (inr is)))

is-found-at : {A : Type 0} (p : A → Bool) (x first : A) (xs : List A) (b : Bool) → p first ≡ b → (find p xs ≡ Some x → IsIn x xs × (p x ≡ true))
    → cond b (Some first) (find p xs) ≡ Some x → IsIn x (first ∷ xs) × (p x ≡ true)
is-found-at p x first xs true is rest same = let here : first ≡ x = cc in (inl (sym here), ap p (sym here) ∙ is)
is-found-at p x first xs false is rest same = let both = rest same in (inr both.0, both.1)

-- what is found is among the list and passes
pub is-found : {A : Type 0} (p : A → Bool) (x : A) (xs : List A) → find p xs ≡ Some x → IsIn x xs × (p x ≡ true)
is-found p x [] same = absurd cc
is-found p x (first ∷ xs) same = is-found-at p x first xs (p first) refl (is-found p x xs) same
