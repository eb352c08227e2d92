-- How many units the planets of a player have.
use Rattle.std.proofs.Common.{◌≡◌, ℕ, ◌+◌, ◌<◌, ◌≤◌, Bool, true, false, cond, List, [], ◌∷◌, Some, get_or, length, ap, arith}
use Rattle.std.specs.Prelude.{if◌then◌else◌, slice_set, sum, sum_by}
use Rattle.std.proofs.lemmas.List.Sums.{sum_by-cons, sum_by-set}
use Rattle.base_ids.specs.Cells.{same_coord}
use Rattle.founding.specs.Drafts.{planet_at, put, replaced, DraftPlanet}

-- one more adds what it has
pub sum_by-put : {A : Type 0} (f : A → ℕ) (before : A → A → Bool) (new : A) (xs : List A) → sum_by f (put before new xs) ≡ sum_by f xs + f new
sum_by-put f before new [] = let one = sum_by-cons f new [] in omega (arith, one)
sum_by-put {A} f before new (x ∷ xs) = either (before new x) (sum_by-put f before new xs)
  where
    either : (b : Bool) → sum_by f (put before new xs) ≡ sum_by f xs + f new → sum_by f (if b then new ∷ x ∷ xs else x ∷ put before new xs) ≡ sum_by f (x ∷ xs) + f new
    either true rest = let all = sum_by-cons f new (x ∷ xs) in omega (arith, all)
    either false rest = let old = sum_by-cons f x xs in let all = sum_by-cons f x (put before new xs) in omega (arith, old, all, rest)

-- a planet in place of another one takes what that one had, and adds what it has
pub sum_by-replaced : (f : DraftPlanet → ℕ) (new old : DraftPlanet) (planets : List DraftPlanet) → planet_at new.at planets ≡ Some old → sum_by f (replaced new planets) + f old ≡ sum_by f planets + f new
sum_by-replaced f new old [] stands = absurd (cc stands)
sum_by-replaced f new old (planet ∷ planets) stands = either (same_coord planet.at new.at) stands (λ found. sum_by-replaced f new old planets found)
  where
    either : (b : Bool) → cond b (Some planet) (planet_at new.at planets) ≡ Some old → (planet_at new.at planets ≡ Some old → sum_by f (replaced new planets) + f old ≡ sum_by f planets + f new)
        → sum_by f (if b then new ∷ planets else planet ∷ replaced new planets) + f old ≡ sum_by f (planet ∷ planets) + f new
    either true found rest =
        let one : planet ≡ old = cc in
        let same = ap f one in
        let before = sum_by-cons f planet planets in
        let after = sum_by-cons f new planets in
        omega (arith, same, before, after)
    either false found rest =
        let before = sum_by-cons f planet planets in
        let after = sum_by-cons f planet (replaced new planets) in
        let later = rest found in
        omega (arith, before, after, later)

-- no planet has more than all
pub one-within : (f : DraftPlanet → ℕ) (new old : DraftPlanet) (planets : List DraftPlanet) → planet_at new.at planets ≡ Some old → f old ≤ sum_by f planets + f new
one-within f new old planets stands = let all = sum_by-replaced f new old planets stands in omega (arith, all)

-- a number that is written adds to the sum, and takes the one that stood there
pub sum-written : (numbers : List ℕ) (place number : ℕ) → place < length numbers → sum (slice_set numbers place number) + get_or numbers place 0 ≡ sum numbers + number
sum-written numbers place number within = sum_by-set (λ (n : ℕ). n) numbers place number 0 within
