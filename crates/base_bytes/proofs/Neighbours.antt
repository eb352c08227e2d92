-- Lists whose neighbours are in order.
use Rattle.std.proofs.Common.{◌≡◌, ◌≤◌, ◌<◌, ◌+◌, ◌-◌, ℕ, suc, zero, Bool, true, false, List, [], ◌∷◌, length, get_or, arith, refl, subst, sym, ◌∙◌}
use Rattle.std.specs.Prelude.{AllPairs, IsTrue, ◌↔◌}
use Rattle.std.specs.List.{AllAdjacentBelow, IsAllAdjacentAnswer}

module _ {X : Type 0} (before : X → X → Bool) (through : (a b c : X) → before a b ≡ true → before b c ≡ true → before a c ≡ true) where
  -- the element at a place comes before the one at another
  At : List X → ℕ → X → ℕ → Type 0
  At xs i d j = before (get_or xs i d) (get_or xs j d) ≡ true

  -- if each element comes before the next, it comes before all that follow
  further : (xs : List X) (i n : ℕ) (d : X) → AllAdjacentBelow (λ a b. before a b ≡ true) xs (length xs) → i + 1 + n < length xs → At xs i d (i + 1 + n)
  unfolding At
  further xs i zero d next below = subst (At xs i d) (omega arith) (next i d (omega (arith, below)))
  further xs i (suc n) d next below =
      let last : before (get_or xs (i + 1 + n) d) (get_or xs (i + 1 + suc n) d) ≡ true =
      subst (At xs (i + 1 + n) d) (omega arith) (next (i + 1 + n) d (omega (arith, below))) in
      through (get_or xs i d) (get_or xs (i + 1 + n) d) (get_or xs (i + 1 + suc n) d) (further xs i n d next (omega (arith, below))) last

  rises : (xs : List X) → AllAdjacentBelow (λ a b. before a b ≡ true) xs (length xs) → AllPairs (λ a b. before a b ≡ true) xs
  unfolding At
  rises xs next = λ i j d sooner below.
      subst (At xs i d) (omega (arith, sooner)) (further xs i (j - (i + 1)) d next (omega (arith, sooner, below)))

  -- what `is_sorted_by` answers
  pub rises-answer : (xs : List X) (r : Bool) → IsAllAdjacentAnswer (λ a b r. r ≡ before a b) xs r → IsTrue r ↔ AllPairs (λ a b. before a b ≡ true) xs
  rises-answer xs true each = (λ yes. rises xs (λ k d below. sym (each k d below)), λ pairs. refl)
  rises-answer [] false each = absurd (omega (arith, each.1))
  rises-answer (x ∷ xs) false each = (
    λ no. absurd (cc no),
    λ pairs.
        let apart : false ≡ before (get_or (x ∷ xs) each.0 x) (get_or (x ∷ xs) (each.0 + 1) x) = each.2 x in
        absurd (cc (apart ∙ pairs each.0 (each.0 + 1) x (omega arith) each.1)),
  )
