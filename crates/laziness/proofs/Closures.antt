-- The closure by rounds over the directory is the least closed set.
use Rattle.std.proofs.Common.{◌≡◌, ℕ, zero, suc, ◌+◌, ◌<◌, ◌≤◌, ◌⊎◌, inl, inr, Bool, true, false, ◌&&◌, ◌||◌, cond, List, [], ◌∷◌, length, Contains, slice_index_or, arith, refl, ap, ◌∙◌, sym}
use Rattle.std.specs.List.{list_any}
use Rattle.laziness.specs.Model.{Model}
use Rattle.laziness.specs.Laws.{ModelLaws, IsClosed}
use Rattle.laziness.specs.Closing.{round, rounds, closing, IsLeast}
use Rattle.laziness.proofs.Bringing.{test, never}

abbrev In : {A : Type 0} → A → List A → Type 0
In y [] = ⊥
In y (x ∷ xs) = (x ≡ y) ⊎ In y xs

contains-in : {A : Type 0} (y : A) (xs : List A) (k : ℕ) → k < length xs → slice_index_or xs k y ≡ y → In y xs
contains-in y [] k short is = absurd (omega (arith, short))
contains-in y (x ∷ xs) zero short is = inl is
contains-in y (x ∷ xs) (suc k) short is = inr (contains-in y xs k (omega (arith, short)) is)

listed-in : {A : Type 0} (y : A) (xs : List A) → Contains xs y → In y xs
listed-in y xs has = contains-in y xs has.0 has.1 has.2

or-left : (a b : Bool) → a ≡ true → (a || b) ≡ true
or-left true b is = refl
or-left false b is = absurd (never {A = ⊥} false is refl)

or-right : (a b : Bool) → b ≡ true → (a || b) ≡ true
or-right true b is = refl
or-right false b is = is

or-cases : (a b : Bool) → (a || b) ≡ true → (a ≡ true) ⊎ (b ≡ true)
or-cases true b is = inl refl
or-cases false b is = inr is

and-both : (a b : Bool) → a ≡ true → b ≡ true → (a && b) ≡ true
and-both true b is is' = is'
and-both false b is is' = is

and-left : (a b : Bool) → (a && b) ≡ true → a ≡ true
and-left true b is = refl
and-left false b is = is

and-right : (a b : Bool) → (a && b) ≡ true → b ≡ true
and-right true b is = is
and-right false b is = absurd (never {A = ⊥} false is refl)

any-in : {A : Type 0} (p : A → Bool) (xs : List A) (x : A) → In x xs → p x ≡ true → list_any p xs ≡ true
any-in p [] x has passes = absurd has
any-in p (y ∷ ys) x (inl is) passes = or-left (p y) (list_any p ys) (ap p is ∙ passes)
any-in p (y ∷ ys) x (inr has) passes = or-right (p y) (list_any p ys) (any-in p ys x has passes)

any-gives : {A : Type 0} (p : A → Bool) (xs : List A) → list_any p xs ≡ true → (x : A) × (p x ≡ true)
any-gives p [] is = absurd (never {A = ⊥} false is refl)
any-gives p (y ∷ ys) is = elim (or-cases (p y) (list_any p ys) is) [ inl here ↦ (y, here) | inr there ↦ any-gives p ys there ]

-- how many elements of a list are in a set
abbrev sized : {A : Type 0} → (A → Bool) → List A → ℕ
sized S [] = 0
sized S (x ∷ xs) = cond (S x) 1 0 + sized S xs

one-at-most : (b : Bool) → cond b 1 0 ≤ 1
one-at-most true = omega arith
one-at-most false = omega arith

sized-le : {A : Type 0} (S : A → Bool) (xs : List A) → sized S xs ≤ length xs
sized-le S [] = omega arith
sized-le S (x ∷ xs) =
    let rest : sized S xs ≤ length xs = sized-le S xs in
    let one : cond (S x) 1 0 ≤ 1 = one-at-most (S x) in
    omega (arith, rest, one)

full_at : (b : Bool) (n m : ℕ) → m ≤ n → suc n ≤ cond b 1 0 + m → (b ≡ true) × (n ≤ m)
full_at true n m less full = (refl, omega (arith, full))
full_at false n m less full = absurd (omega (arith, less, full))

-- a set with as many elements of a list as it has has them all
sized-full : {A : Type 0} (S : A → Bool) (xs : List A) → length xs ≤ sized S xs → (x : A) → In x xs → S x ≡ true
sized-full S [] full x has = absurd has
sized-full S (y ∷ ys) full x (inl is) = ap S (sym is) ∙ (full_at (S y) (length ys) (sized S ys) (sized-le S ys) full).0
sized-full S (y ∷ ys) full x (inr has) = sized-full S ys (full_at (S y) (length ys) (sized S ys) (sized-le S ys) full).1 x has

more_at : (b c : Bool) → (b ≡ true → c ≡ true) → cond b 1 0 ≤ cond c 1 0
more_at true true more = omega arith
more_at true false more = absurd (never {A = ⊥} false (more refl) refl)
more_at false c more = omega arith

sized-more : {A : Type 0} (S R : A → Bool) → ((x : A) → S x ≡ true → R x ≡ true) → (xs : List A) → sized S xs ≤ sized R xs
sized-more S R more [] = omega arith
sized-more S R more (x ∷ xs) =
    let rest : sized S xs ≤ sized R xs = sized-more S R more xs in
    let first : cond (S x) 1 0 ≤ cond (R x) 1 0 = more_at (S x) (R x) (more x) in
    omega (arith, rest, first)

new_at : (b c : Bool) → b ≡ false → c ≡ true → cond b 1 0 < cond c 1 0
new_at true c none new = absurd (never {A = ⊥} true refl none)
new_at false true none new = omega arith
new_at false false none new = absurd (never {A = ⊥} false new refl)

sized-new : {A : Type 0} (S R : A → Bool) → ((x : A) → S x ≡ true → R x ≡ true) → (xs : List A) (x : A) → In x xs → S x ≡ false → R x ≡ true → sized S xs < sized R xs
sized-new S R more [] x has none new = absurd has
sized-new S R more (y ∷ ys) x (inl is) none new =
    let rest : sized S ys ≤ sized R ys = sized-more S R more ys in
    let first : cond (S y) 1 0 < cond (R y) 1 0 = new_at (S y) (R y) (ap S is ∙ none) (ap R is ∙ new) in
    omega (arith, rest, first)
sized-new S R more (y ∷ ys) x (inr has) none new =
    let rest : sized S ys < sized R ys = sized-new S R more ys x has none new in
    let first : cond (S y) 1 0 ≤ cond (R y) 1 0 = more_at (S y) (R y) (more y) in
    omega (arith, rest, first)

-- a larger set has a new element of a list, or none
new_or_none : {A : Type 0} (S R : A → Bool) (xs : List A) → ((x : A) × In x xs × (S x ≡ false) × (R x ≡ true)) ⊎ ((x : A) → In x xs → R x ≡ true → S x ≡ true)
new_or_none S R [] = inr (λ x has is. absurd has)
new_or_none S R (y ∷ ys) =
    elim (new_or_none S R ys) [
      | inl new ↦ inl (new.0, inr new.1, new.2, new.3)
      | inr none ↦ elim (test (S y)) [
        | inl old ↦ inr (λ x has is. elim has [ inl same ↦ ap S (sym same) ∙ old | inr there ↦ none x there is ])
        | inr out ↦ elim (test (R y)) [
          | inl new ↦ inl (y, inl refl, out, new)
          | inr out' ↦ inr (λ x has is. elim has [ inl same ↦ never (R y) (ap R same ∙ is) out' | inr there ↦ none x there is ])
        ]
      ]
    ]

-- all of a set is listed
abbrev IsListed : (M : Model) → (M.Id → Bool) → Type 0
IsListed M S = (x : M.Id) → S x ≡ true → In x M.ids

-- so is all that is brought
abbrev BringsListed : (M : Model) → (M.Id → M.View) → ℕ → Type 0
BringsListed M seen t = (x y : M.Id) → M.brings (seen x) t y ≡ true → In y M.ids

round-keeps : (M : Model) (seen : M.Id → M.View) (t : ℕ) (S : M.Id → Bool) (y : M.Id) → S y ≡ true → round M seen t S y ≡ true
round-keeps M seen t S y inside = or-left (S y) (list_any (λ x. S x && M.brings (seen x) t y) M.ids) inside

round-brings : (M : Model) (seen : M.Id → M.View) (t : ℕ) (S : M.Id → Bool) (x y : M.Id) → In x M.ids → S x ≡ true → M.brings (seen x) t y ≡ true → round M seen t S y ≡ true
round-brings M seen t S x y has inside brings =
    or-right (S y) (list_any (λ x. S x && M.brings (seen x) t y) M.ids) (any-in (λ x. S x && M.brings (seen x) t y) M.ids x has (and-both (S x) (M.brings (seen x) t y) inside brings))

-- what a round adds is brought
round-cases : (M : Model) (seen : M.Id → M.View) (t : ℕ) (S : M.Id → Bool) (y : M.Id) → round M seen t S y ≡ true → (S y ≡ true) ⊎ ((x : M.Id) × (S x ≡ true) × (M.brings (seen x) t y ≡ true))
round-cases M seen t S y is =
    elim (or-cases (S y) (list_any (λ x. S x && M.brings (seen x) t y) M.ids) is) [
      | inl old ↦ inl old
      | inr new ↦ let by = any-gives (λ x. S x && M.brings (seen x) t y) M.ids new in
          inr (by.0, and-left (S by.0) (M.brings (seen by.0) t y) by.1, and-right (S by.0) (M.brings (seen by.0) t y) by.1)
    ]

round-listed : (M : Model) (seen : M.Id → M.View) (t : ℕ) (S : M.Id → Bool) → BringsListed M seen t → IsListed M S → IsListed M (round M seen t S)
round-listed M seen t S brings listed y is = elim (round-cases M seen t S y is) [ inl old ↦ listed y old | inr by ↦ brings by.0 y by.2 ]

rounds-listed : (M : Model) (seen : M.Id → M.View) (t n : ℕ) (S : M.Id → Bool) → BringsListed M seen t → IsListed M S → IsListed M (rounds M seen t n S)
rounds-listed M seen t zero S brings listed = listed
rounds-listed M seen t (suc n) S brings listed = round-listed M seen t (rounds M seen t n S) brings (rounds-listed M seen t n S brings listed)

-- a round leaves a closed set as it is
round-closed : (M : Model) (seen : M.Id → M.View) (t : ℕ) (S : M.Id → Bool) → IsClosed M seen t S → IsClosed M seen t (round M seen t S)
round-closed M seen t S closed x inside y brings =
    let old : S x ≡ true = elim (round-cases M seen t S x inside) [ inl old ↦ old | inr by ↦ closed by.0 by.1 x by.2 ] in
    round-keeps M seen t S y (closed x old y brings)

-- a round that adds nothing listed was one of a closed set
none-closed : (M : Model) (seen : M.Id → M.View) (t : ℕ) (S : M.Id → Bool) → BringsListed M seen t → IsListed M S
    → ((x : M.Id) → In x M.ids → round M seen t S x ≡ true → S x ≡ true) → IsClosed M seen t S
none-closed M seen t S listed_brought listed none x inside y brings = none y (listed_brought x y brings) (round-brings M seen t S x y (listed x inside) inside brings)

-- after n rounds a set is closed or has n of the names
closed-or-large : (M : Model) (seen : M.Id → M.View) (t : ℕ) (S : M.Id → Bool) → BringsListed M seen t → IsListed M S → (n : ℕ)
    → IsClosed M seen t (rounds M seen t n S) ⊎ (n ≤ sized (rounds M seen t n S) M.ids)
closed-or-large M seen t S brings listed zero = inr (omega arith)
closed-or-large M seen t S brings listed (suc n) =
    let old = rounds M seen t n S in
    elim (closed-or-large M seen t S brings listed n) [
      | inl closed ↦ inl (round-closed M seen t old closed)
      | inr large ↦ elim (new_or_none old (round M seen t old) M.ids) [
        | inl new ↦
            let more : sized old M.ids < sized (round M seen t old) M.ids = sized-new old (round M seen t old) (round-keeps M seen t old) M.ids new.0 new.1 new.2 new.3 in
            inr (omega (arith, large, more))
        | inr none ↦ inl (round-closed M seen t old (none-closed M seen t old brings (rounds-listed M seen t n S brings listed) none))
      ]
    ]

rounds-keep : (M : Model) (seen : M.Id → M.View) (t n : ℕ) (S : M.Id → Bool) (y : M.Id) → S y ≡ true → rounds M seen t n S y ≡ true
rounds-keep M seen t zero S y inside = inside
rounds-keep M seen t (suc n) S y inside = round-keeps M seen t (rounds M seen t n S) y (rounds-keep M seen t n S y inside)

-- rounds stay in a closed set
rounds-within : (M : Model) (seen : M.Id → M.View) (t n : ℕ) (S R : M.Id → Bool) → IsClosed M seen t R → ((x : M.Id) → S x ≡ true → R x ≡ true) → (y : M.Id) → rounds M seen t n S y ≡ true → R y ≡ true
rounds-within M seen t zero S R closed within y is = within y is
rounds-within M seen t (suc n) S R closed within y is =
    elim (round-cases M seen t (rounds M seen t n S) y is) [
      | inl old ↦ rounds-within M seen t n S R closed within y old
      | inr by ↦ closed by.0 (rounds-within M seen t n S R closed within by.0 by.1) y by.2
    ]

pub closing-least : (M : Model) → ModelLaws M → (u : M.Universe) (t : ℕ) (a : M.Ask) → M.Fine u → IsLeast M (M.view u) t a (closing M (M.view u) t a)
closing-least M L u t a fine =
    let seen = M.view u in
    let brings : BringsListed M seen t = λ x y is. listed-in y M.ids (L.brought_listed u x t y fine is) in
    let listed : IsListed M (M.asks a seen) = λ x is. listed-in x M.ids (L.asked_listed u a x fine is) in
    record {
      closed = elim (closed-or-large M seen t (M.asks a seen) brings listed (length M.ids)) [
        | inl closed ↦ closed
        | inr large ↦ λ x inside y is. sized-full (closing M seen t a) M.ids large y (brings x y is)
      ];
      covers = λ y is. rounds-keep M seen t (length M.ids) (M.asks a seen) y is;
      least = λ R closed covers x is. rounds-within M seen t (length M.ids) (M.asks a seen) R closed covers x is;
    }
