-- What holds of each element of a list, found by going over it; and what it says of the items that they stand for.
use Rattle.std.proofs.Common.{◌≡◌, ℕ, ◌+◌, ◌<◌, List, [], ◌∷◌, ◌++◌, map, length, drop, get_or, refl, subst, sym}
use Rattle.std.specs.Prelude.{All, Some, slice_get}
use Rattle.std.specs.List.{AllWithin}
use Rattle.std.proofs.lemmas.List.Elements.{All-cons, All-get_or, All-head, All-map, All-nil, All-tail, AllWithin-more, at_read}
use Rattle.base_bytes.specs.Sound.{RunsAfter}
use Rattle.tick_model.specs.Limits.{OthersWait, Waits}
use Rattle.tick_model.specs.Universe.{Item}

module _ {X : Type 0} (P : X → Type 0) where
  -- one element more
  pub one_more : (xs : List X) (i : ℕ) (x : X) → i < length xs → x ≡ get_or xs i x → P x → AllWithin P xs 0 i → AllWithin P xs 0 (i + 1)
  one_more xs i x below is holds before = AllWithin-more P xs 0 i before (at_read xs P i x below is holds)

  -- one that fails
  pub not_all : (xs : List X) (i : ℕ) (x : X) → i < length xs → x ≡ get_or xs i x → (P x → ⊥) → All P xs → ⊥
  not_all xs i x below is fails all = fails (subst P (sym is) (All-get_or P xs i x below all))

  -- both parts of a list
  pub all-parts : (xs ys : List X) → All P (xs ++ ys) → All P xs × All P ys
  all-parts [] ys all = (All-nil P, all)
  all-parts (x ∷ xs) ys all =
      let rest = all-parts xs ys (All-tail P x (xs ++ ys) all) in
      (All-cons P x xs (All-head P x (xs ++ ys) all) rest.0, rest.1)

  -- what elements stand for
  pub all-mapped : {Y : Type 0} (f : Y → X) (ys : List Y) → All P (map f ys) → All (λ y. P (f y)) ys
  all-mapped f [] all = All-nil (λ y. P (f y))
  all-mapped f (y ∷ ys) all = All-cons (λ y. P (f y)) y ys (All-head P (f y) (map f ys) all) (all-mapped f ys (All-tail P (f y) (map f ys) all))

module _ {X : Type 0} (f : X → Item) where
  -- the first of a queue
  pub runs_from_first : (moment : ℕ) (xs : List X) → ((x : X) → Some x ≡ slice_get xs 0 → moment < (f x).second) → RunsAfter moment (map f xs)
  runs_from_first moment [] first = tt
  runs_from_first moment (x ∷ xs) first = first x refl

  pub first_runs : (moment : ℕ) (xs : List X) → RunsAfter moment (map f xs) → (x : X) → Some x ≡ slice_get xs 0 → moment < (f x).second
  first_runs moment [] runs x is = absurd cc
  first_runs moment (y ∷ ys) runs x is = subst (λ (z : X). moment < (f z).second) (sym (one x y is)) runs
    where
      one : (a b : X) → Some a ≡ Some b → a ≡ b
      one a b same = cc

  -- those behind it
  pub others-from-rest : (xs : List X) → All (λ x. Waits (f x)) (drop 1 xs) → OthersWait (map f xs)
  others-from-rest [] rest = tt
  others-from-rest (x ∷ xs) rest = All-map Waits f xs rest

  pub rest-waits : (xs : List X) → OthersWait (map f xs) → All (λ x. Waits (f x)) (drop 1 xs)
  rest-waits [] others = All-nil (λ x. Waits (f x))
  rest-waits (x ∷ xs) others = all-mapped Waits f xs others
