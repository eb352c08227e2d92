-- A binary search in a rising list finds an element exactly if one is the same.
use Rattle.std.proofs.Common.{◌≡◌, ℕ, ◌<◌, ◌≤◌, inl, inr, Bool, true, false, length, get_or, Result, Ok, Err, refl, ap, sym, ◌∙◌, subst, arith}
use Rattle.std.specs.Prelude.{List, [], ◌∷◌, AllPairs}
use Rattle.std.specs.List.{list_any}
use Rattle.std.specs.List.Sorted.{IsSearchInRange, IsBinarySearchResult, IsNonDecreasingBy}
use Rattle.std.specs.Ordering.{is_eq, is_lt, ordering_index}
use Rattle.std.specs.Result.{is_ok}
use Rattle.std.specs.declared.cmp.Ordering.{Ordering}
use Rattle.std.specs.declared.cmp.Ordering.TheVariants.{Less, Equal, Greater}
use Rattle.std.proofs.lemmas.Bool.{cases_lt}
use Rattle.std.proofs.lemmas.List.Folds.{list_any_at, list_any_none}
use Rattle.base_ids.specs.Order.{IsOrder}

-- a comparison follows an order, and answers `Equal` exactly if two are the same
pub record Follows {A : Type 0} (cmp : A → A → Ordering) (before same : A → A → Bool) : Type 0 where
  pub order : IsOrder before
  pub lower : (a b : A) → is_lt (cmp a b) ≡ before a b
  pub tied : (a b : A) → is_eq (cmp a b) ≡ same b a
  pub one : (a b : A) → same b a ≡ true → a ≡ b

module _ {X A : Type 0} (key : X → A) (cmp : A → A → Ordering) (before same : A → A → Bool) (follows : Follows cmp before same) where
  less_before : (a b : A) → cmp a b ≡ Less → before a b ≡ true
  less_before a b less = sym (follows.lower a b) ∙ ap is_lt less

  equal_is : (a b : A) → cmp a b ≡ Equal → a ≡ b
  equal_is a b equal = follows.one a b (sym (follows.tied a b) ∙ ap is_eq equal)

  before_less : (a b : A) → before a b ≡ true → is_lt (cmp a b) ≡ true
  before_less a b lower = follows.lower a b ∙ lower

  -- what comes first compares no higher
  ranks : (a b x : A) → before a b ≡ true → (p q : Ordering) → cmp a x ≡ p → cmp b x ≡ q → ordering_index p ≤ ordering_index q
  ranks a b x rise Less q first second = omega arith
  ranks a b x rise Equal Less first second =
      let back : before a x ≡ true = follows.order.transitive a b x rise (less_before b x second) in
      let never = ap (before a) (equal_is a x first) ∙ back in
      let itself = follows.order.never_itself a in
      absurd (cc)
  ranks a b x rise Equal Equal first second = omega arith
  ranks a b x rise Equal Greater first second = omega arith
  ranks a b x rise Greater Less first second =
      let less = before_less a x (follows.order.transitive a b x rise (less_before b x second)) in
      let not_less = ap is_lt first in
      absurd (cc)
  ranks a b x rise Greater Equal first second =
      let less = before_less a x (sym (ap (before a) (equal_is b x second)) ∙ rise) in
      let not_less = ap is_lt first in
      absurd (cc)
  ranks a b x rise Greater Greater first second = omega arith

  rises : (xs : List X) (x : A) → AllPairs (λ one other. before (key one) (key other) ≡ true) xs → IsNonDecreasingBy (λ y. ordering_index (cmp (key y) x)) xs
  rises xs x rise i j d le within = elim (cases_lt i j) [
    | inl less ↦ ranks (key (get_or xs i d)) (key (get_or xs j d)) x (rise i j d less within) (cmp (key (get_or xs i d)) x) (cmp (key (get_or xs j d)) x) refl refl
    | inr more ↦
        let here : i ≡ j = omega arith in
        subst (λ k. ordering_index (cmp (key (get_or xs i d)) x) ≤ ordering_index (cmp (key (get_or xs k d)) x)) here (omega arith)
  ]

  found_at : (xs : List X) (x : A) (i : ℕ) → i < length xs → ((d : X) → cmp (key (get_or xs i d)) x ≡ Equal) → list_any (λ y. same x (key y)) xs ≡ true
  found_at [] x i within equal = absurd (omega arith)
  found_at (y ∷ ys) x i within equal =
      list_any_at (λ y. same x (key y)) (y ∷ ys) i y within (sym (follows.tied (key (get_or (y ∷ ys) i y)) x) ∙ ap is_eq (equal y))

  differs : (a x : A) (p : Ordering) → cmp a x ≡ p → is_eq p ≡ false → same x a ≡ false
  differs a x p is apart = sym (follows.tied a x) ∙ ap is_eq is ∙ apart

  -- each element before the place where x would stand compares lower, and each other one higher
  none_at : (xs : List X) (x : A) (i k : ℕ) (d : X) → ((k : ℕ) (d : X) → 0 ≤ k → k < i → cmp (key (get_or xs k d)) x ≡ Less)
      → ((k : ℕ) (d : X) → i ≤ k → k < length xs → cmp (key (get_or xs k d)) x ≡ Greater) → k < length xs → same x (key (get_or xs k d)) ≡ false
  none_at xs x i k d lower higher within = elim (cases_lt k i) [
    | inl less ↦ differs (key (get_or xs k d)) x Less (lower k d (omega arith) less) refl
    | inr more ↦ differs (key (get_or xs k d)) x Greater (higher k d more within) refl
  ]

  in_list : (xs : List X) (x : A) (r : Result ℕ ℕ) → AllPairs (λ one other. before (key one) (key other) ≡ true) xs → IsSearchInRange r (length xs)
      → IsBinarySearchResult (λ y. cmp (key y) x) xs r → is_ok r ≡ list_any (λ y. same x (key y)) xs
  in_list xs x (Ok i) rise within equal = sym (found_at xs x i within equal)
  in_list xs x (Err i) rise within parted =
      let parts = parted (rises xs x rise) in
      sym (list_any_none (λ y. same x (key y)) xs (λ k d short. none_at xs x i k d parts.0 parts.1 short))

  -- the list that is searched is this one
  pub searched : (xs ys : List X) (x : A) (r : Result ℕ ℕ) → AllPairs (λ one other. before (key one) (key other) ≡ true) xs → ys ≡ xs → IsSearchInRange r (length ys)
      → IsBinarySearchResult (λ y. cmp (key y) x) ys r → is_ok r ≡ list_any (λ y. same x (key y)) xs
  searched xs ys x r rise is within result =
      in_list xs x r rise (subst (λ zs. IsSearchInRange r (length zs)) is within) (subst (λ zs. IsBinarySearchResult (λ y. cmp (key y) x) zs r) is result)
