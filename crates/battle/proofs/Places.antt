-- Lists of places that rise: each place stands once.
use Rattle.std.proofs.Common.{◌≡◌, ℕ, zero, suc, ◌+◌, ◌<◌, ◌≤◌, List, [], ◌∷◌, length, map, get_or, set, Bool, true, false, cond, filter, ap, ◌∙◌, refl, arith}
use Rattle.std.specs.List.{range_with_len}

-- the places rise from this one on
unfoldable pub Rise : ℕ → List ℕ → Type 0
Rise from [] = Unit
Rise from (place ∷ places) = (from ≤ place) × Rise (place + 1) places

pub rise_before : (from first : ℕ) (places : List ℕ) → from ≤ first → Rise first places → Rise from places
unfolding Rise
rise_before from first [] before rise = tt
rise_before from first (place ∷ places) before (after, rise) = (omega (arith, before, after), rise)

-- those of a range that pass a test
pub rise_filter : (test : ℕ → Bool) (from count : ℕ) → Rise from (filter test (range_with_len from count))
unfolding Rise
rise_filter test from zero = tt
rise_filter test from (suc count) = either (test from) (rise_filter test (from + 1) count)
  where
    either : (passes : Bool) → Rise (from + 1) (filter test (range_with_len (from + 1) count)) → Rise from (cond passes (from ∷ filter test (range_with_len (from + 1) count)) (filter test (range_with_len (from + 1) count)))
    either true later = (omega arith, later)
    either false later = rise_before from (from + 1) _ (omega arith) later

-- two functions that agree on all places but one
pub map_alike : {X : Type 0} (f g : ℕ → X) (at from : ℕ) (places : List ℕ) → at < from → Rise from places → ((place : ℕ) → (at ≡ place → ⊥) → g place ≡ f place) → map g places ≡ map f places
unfolding Rise
map_alike f g at from [] below rise alike = refl
map_alike f g at from (place ∷ places) below (after, rise) alike =
    ap (λ x. x ∷ map g places) (alike place (λ same. omega (arith, below, after, same)))
    ∙ ap (λ xs. f place ∷ xs) (map_alike f g at (place + 1) places (omega (arith, below, after)) rise alike)

pub map_set : {X : Type 0} (f g : ℕ → X) (from i d : ℕ) (places : List ℕ) → i < length places → Rise from places
    → ((place : ℕ) → (get_or places i d ≡ place → ⊥) → g place ≡ f place)
    → map g places ≡ set (map f places) i (g (get_or places i d))
unfolding Rise
map_set f g from zero d (place ∷ places) within (after, rise) alike =
    ap (λ xs. g place ∷ xs) (map_alike f g place (place + 1) places (omega arith) rise alike)
map_set f g from (suc i) d (place ∷ places) within (after, rise) alike =
    ap (λ x. x ∷ map g places) (alike place (λ same. omega (arith, same, at_least i d (place + 1) places (omega (arith, within)) rise)))
    ∙ ap (λ xs. f place ∷ xs) (map_set f g (place + 1) i d places (omega (arith, within)) rise alike)
  where
    at_least : (i d from : ℕ) (places : List ℕ) → i < length places → Rise from places → from ≤ get_or places i d
    at_least i d from [] within rise = omega (arith, within)
    at_least zero d from (place ∷ places) within (after, rise) = after
    at_least (suc i) d from (place ∷ places) within (after, rise) = let later = at_least i d (place + 1) places (omega (arith, within)) rise in omega (arith, after, later)
map_set f g from zero d [] within rise alike = refl
map_set f g from (suc i) d [] within rise alike = refl
