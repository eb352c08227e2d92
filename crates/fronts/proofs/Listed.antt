-- Lists: what they contain, and what is true of each element that is found by its place.
use Rattle.std.proofs.Common.{◌≡◌, ◌≢◌, ◌⊎◌, ℕ, zero, suc, ◌+◌, ◌<◌, ◌≤◌, List, [], ◌∷◌, ◌++◌, length, set, inl, inr, ⊎_elim, refl, sym, ap, ◌∙◌, subst, arith}
use Rattle.std.specs.Prelude.{All, Contains, sum_by}
use Rattle.std.proofs.lemmas.List.Sums.{sum_by-append, sum_by-cons}
use mathlib.Core.Option.{some, some-injective, some-ne-none}
use lib.ListN.{get_elem?}
use Rattle.atomic_table.proofs.Lists.{at_set}

module _ {A : Type 0} where
  pub contains_none : (x : A) → Contains [] x → ⊥
  contains_none x h = omega (arith, h.1)

  pub contains_head : (x : A) (xs : List A) → Contains (x ∷ xs) x
  contains_head x xs = (0, omega arith, refl)

  pub contains_tail : (x y : A) (xs : List A) → Contains xs x → Contains (y ∷ xs) x
  contains_tail x y xs h = (suc h.0, omega (arith, h.1), h.2)

  pub contains_cases : (x y : A) (xs : List A) → Contains (y ∷ xs) x → (y ≡ x) ⊎ Contains xs x
  contains_cases x y xs h = at h.0 h.1 h.2
    where
      at : (k : ℕ) → k < length (y ∷ xs) → Rattle.std.specs.Prelude.slice_index_or (y ∷ xs) k x ≡ x → (y ≡ x) ⊎ Contains xs x
      at zero less e = inl e
      at (suc k) less e = inr (k, omega arith, e)

  -- a place of a list that is one element longer
  at_end : (xs : List A) (x y : A) (i : ℕ) → get_elem? (xs ++ x ∷ []) i ≡ some y → (get_elem? xs i ≡ some y) ⊎ ((i ≡ length xs) × (x ≡ y))
  at_end [] x y zero e = inr (refl, some-injective x y e)
  at_end [] x y (suc i) e = absurd (some-ne-none y (sym e))
  at_end (z ∷ xs) x y zero e = inl e
  at_end (z ∷ xs) x y (suc i) e = ⊎_elim inl (λ t. inr (ap suc t.0, t.1)) (at_end xs x y i e)

  pub at_less : (xs : List A) (i : ℕ) (x : A) → get_elem? xs i ≡ some x → i < length xs
  at_less [] i x e = absurd (some-ne-none x (sym e))
  at_less (y ∷ xs) zero x e = omega arith
  at_less (y ∷ xs) (suc i) x e = omega (arith, at_less xs i x e)

  pub length_set : (xs : List A) (i : ℕ) (x : A) → length (set xs i x) ≡ length xs
  length_set [] i x = refl
  length_set (y ∷ xs) zero x = refl
  length_set (y ∷ xs) (suc i) x = ap suc (length_set xs i x)

  -- what is true of each element stays true if one is changed for another of which it is true
  pub each_set : (P : ℕ → A → Type 0) (xs : List A) (i : ℕ) (x : A) → ((j : ℕ) (y : A) → j ≢ i → get_elem? xs j ≡ some y → P j y) → P i x
      → (j : ℕ) (y : A) → get_elem? (set xs i x) j ≡ some y → P j y
  each_set P xs i x others here j y e =
      ⊎_elim
      (λ (t : (j ≡ i) × (x ≡ y)). subst (λ k. P k y) (sym t.0) (subst (P i) t.1 here))
      (λ (t : (j ≢ i) × (get_elem? xs j ≡ some y)). others j y t.0 t.1)
      (at_set xs i j x y e)

  -- or if another one comes at the end
  pub each_end : (P : ℕ → A → Type 0) (xs : List A) (x : A) → ((j : ℕ) (y : A) → get_elem? xs j ≡ some y → P j y) → P (length xs) x
      → (j : ℕ) (y : A) → get_elem? (xs ++ x ∷ []) j ≡ some y → P j y
  each_end P xs x others here j y e =
      ⊎_elim
      (λ (t : get_elem? xs j ≡ some y). others j y t)
      (λ (t : (j ≡ length xs) × (x ≡ y)). subst (λ k. P k y) (sym t.0) (subst (P (length xs)) t.1 here))
      (at_end xs x y j e)

  pub sum_set : (f : A → ℕ) (xs : List A) (i : ℕ) (x y : A) → get_elem? xs i ≡ some x → sum_by f (set xs i y) + f x ≡ sum_by f xs + f y
  sum_set f [] i x y e = absurd (some-ne-none x (sym e))
  sum_set f (z ∷ xs) zero x y e =
      let same : f z ≡ f x = ap f (some-injective z x e) in
      let before : sum_by f (z ∷ xs) ≡ f z + sum_by f xs = sum_by-cons f z xs in
      let after : sum_by f (set (z ∷ xs) zero y) ≡ f y + sum_by f xs = sum_by-cons f y xs in
      omega arith
  sum_set f (z ∷ xs) (suc i) x y e =
      let before : sum_by f (z ∷ xs) ≡ f z + sum_by f xs = sum_by-cons f z xs in
      let after : sum_by f (set (z ∷ xs) (suc i) y) ≡ f z + sum_by f (set xs i y) = sum_by-cons f z (set xs i y) in
      omega (arith, sum_set f xs i x y e)

  pub sum_end : (f : A → ℕ) (xs : List A) (x : A) → sum_by f (xs ++ x ∷ []) ≡ sum_by f xs + f x
  sum_end f xs x = let one : sum_by f (x ∷ []) ≡ f x = omega arith in omega (arith, sum_by-append f xs (x ∷ []))

  -- of two beginnings of one list the shorter begins the longer
  pub begins_longer : (xs ys more rest_of : List A) → xs ++ more ≡ ys ++ rest_of → length xs ≤ length ys → (between : List A) × (xs ++ between ≡ ys) × (more ≡ between ++ rest_of)
  begins_longer [] ys more rest_of e less = (ys, refl, e)
  begins_longer (x ∷ xs) [] more rest_of e less = absurd (omega arith)
  begins_longer (x ∷ xs) (y ∷ ys) more rest_of e less =
      let heads : x ≡ y = cc e in
      let tails : xs ++ more ≡ ys ++ rest_of = cc e in
      let rest = begins_longer xs ys more rest_of tails (omega arith) in
      (rest.0, cc (heads, rest.1), rest.2)

  -- a list that goes on by nothing
  pub goes_on_by_none : (xs more ys : List A) → xs ++ more ≡ ys → length ys ≤ length xs → more ≡ []
  goes_on_by_none xs [] ys e less = refl
  goes_on_by_none xs (a ∷ more) ys e less = let long : length (xs ++ a ∷ more) ≡ length ys = ap length e in absurd (omega (arith, Rattle.std.proofs.Common.length-append xs (a ∷ more)))

  pub all_tail : (P : A → Type 0) (x : A) (xs : List A) → All P (x ∷ xs) → All P xs
  all_tail P x xs h k d less = h (suc k) d (omega arith)

  pub all_rest : (P : A → Type 0) (xs ys : List A) → All P (xs ++ ys) → All P ys
  all_rest P [] ys h = h
  all_rest P (x ∷ xs) ys h = all_rest P xs ys (all_tail P x (xs ++ ys) h)

  pub all_front : (P : A → Type 0) (xs ys : List A) → All P (xs ++ ys) → All P xs
  all_front P [] ys h k d less = absurd (omega arith)
  all_front P (x ∷ xs) ys h zero d less = h zero d (omega arith)
  all_front P (x ∷ xs) ys h (suc k) d less = all_front P xs ys (all_tail P x (xs ++ ys) h) k d (omega arith)
