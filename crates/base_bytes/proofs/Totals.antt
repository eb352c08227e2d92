-- Numbers of a list, each within a bound.
use Rattle.std.proofs.Common.{◌≡◌, ℕ, ◌≤◌, List, [], ◌∷◌, true, nat_le, arith, refl, suc, zero}
use Rattle.std.proofs.lemmas.Bool.Decides.{nat_tests}
use Rattle.std.specs.List.{list_all}
use Rattle.std.specs.Prelude.{IsTrue, ◌↔◌, slice_index}
use Rattle.planet_cell.specs.Bounds.{AreAtMost}

all-there : (most : ℕ) (numbers : List ℕ) → list_all (λ n. nat_le n most) numbers ≡ true → (place : ℕ) → slice_index numbers place ≤ most
all-there most [] all place = omega arith
all-there most (first ∷ later) all zero = grind (arith, nat_tests)
all-there most (first ∷ later) all (suc place) = all-there most later (grind (arith, nat_tests)) place

there-all : (most : ℕ) (numbers : List ℕ) → AreAtMost most numbers → list_all (λ n. nat_le n most) numbers ≡ true
there-all most [] at = refl
there-all most (first ∷ later) at =
    let here : first ≤ most = at zero in
    let rest = there-all most later (λ place. at (suc place)) in
    grind (arith, nat_tests)

pub at_most : (most : ℕ) (numbers : List ℕ) → IsTrue (list_all (λ n. nat_le n most) numbers) ↔ AreAtMost most numbers
at_most most numbers = (λ all. all-there most numbers all, λ at. there-all most numbers at)
