-- What is left behind words that were taken.
use Rattle.std.proofs.Common.{◌≡◌, List, ◌∷◌, Option, None, Some, MatchOption, sym, ◌∙◌}

-- behind the first word of one list
pub tail_same : {A : Type 0} (old : List A) (x y : A) (xs ys : List A) → old ≡ x ∷ xs → old ≡ y ∷ ys → xs ≡ ys
tail_same old x y xs ys a b = let both : x ∷ xs ≡ y ∷ ys = sym a ∙ b in cc

-- behind its first two words
pub tail_same_two : {A : Type 0} (old : List A) (v w x y : A) (xs ys : List A) → old ≡ v ∷ w ∷ xs → old ≡ x ∷ y ∷ ys → xs ≡ ys
tail_same_two old v w x y xs ys a b = let both : v ∷ w ∷ xs ≡ x ∷ y ∷ ys = sym a ∙ b in cc

-- no answer, if there is none to give
pub if_none : {A : Type 0} (result : Option A) (N : Type 0) (S : A → Type 0) → result ≡ None → N → MatchOption result N S
if_none None N S is holds = holds
if_none (Some x) N S is holds = absurd (cc is)
