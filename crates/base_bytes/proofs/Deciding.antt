-- What an answer of yes or no decides.
use Rattle.std.proofs.Common.{◌≡◌, ℕ, ◌<◌, Bool, true, false, List, [], ◌∷◌, All, length, get_or, arith, refl}
use Rattle.std.specs.Prelude.{IsTrue, MatchBool, ◌↔◌}
use Rattle.std.specs.List.{AllWithin, HoldsAt}

-- an answer on each element of a list
pub all-answer : {X : Type 0} (P : X → Type 0) (xs : List X) (r : Bool)
    → MatchBool r (AllWithin P xs 0 (length xs)) ((k : ℕ) × (k < length xs) × HoldsAt (λ x. P x → ⊥) xs k) → IsTrue r ↔ All P xs
all-answer P xs true each = (λ yes. λ k d below. each k d (omega arith) below, λ all. refl)
all-answer P [] false each = absurd (omega (arith, each.1))
all-answer P (x ∷ xs) false each = (λ no. absurd (cc no), λ all. absurd (each.2 x (all each.0 x each.1)))
