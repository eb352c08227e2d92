-- How many ships a fleet can have.
use Rattle.std.proofs.Common.{◌≡◌, ℕ, ◌*◌, ◌<◌, ◌≤◌, ◌^◌, List, [], ◌∷◌, length, arith}
use Rattle.std.specs.Prelude.{IsTrue, nat_le, sum}
use Rattle.std.specs.List.{list_all}
use Rattle.std.proofs.lemmas.Bool.Decides.{nat_tests}
use Rattle.std.proofs.lemmas.List.Sums.{sum_by-cons}
use Rattle.catalog.specs.declared.ships.TheConstants.{SHIPS, UNITS}

all-within : (counts : List ℕ) → IsTrue (list_all (λ count. nat_le count UNITS) counts) → sum counts ≤ 100000 * length counts
all-within [] within = omega arith
all-within (first ∷ later) within =
    let here : first ≤ 100000 = grind (arith, nat_tests) in
    let there : IsTrue (list_all (λ count. nat_le count UNITS) later) = grind (arith, nat_tests) in
    omega (arith, sum_by-cons (λ (n : ℕ). n) first later, all-within later there)

-- each kind has at most UNITS, and there are 13 kinds
pub ships_within : (counts : List ℕ) → length counts ≡ length SHIPS → IsTrue (list_all (λ count. nat_le count UNITS) counts) → sum counts ≤ 1300000
ships_within counts kinds within = omega (arith, all-within counts within)

pub ships_fit : (counts : List ℕ) → length counts ≡ length SHIPS → IsTrue (list_all (λ count. nat_le count UNITS) counts) → sum counts < 2 ^ 32
ships_fit counts kinds within = omega (arith, ships_within counts kinds within)

pub ruleset ships = (ships_within, ships_fit)
