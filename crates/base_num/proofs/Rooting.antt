-- The whole square root has its two bounds, and no other number has them.
use Rattle.std.proofs.Common.{◌≡◌, ℕ, zero, suc, ◌+◌, ◌*◌, ◌<◌, arith}
use Rattle.std.proofs.lemmas.Bool.Decides.{nat_tests}
use Rattle.std.proofs.lemmas.Nat.{mul-le}
use Rattle.std.proofs.Math.Nat.{lt_of_not-le}
use Rattle.base_num.specs.Root.{IsRoot, next_root, root}

-- the root of the next number
next_bounds : (n r : ℕ) → IsRoot n r → IsRoot (suc n) (next_root (suc n) r)
next_bounds n r bounds =
    let fits = bounds.fits in
    let most = bounds.most in
    record { fits = grind (arith, nat_tests); most = grind (arith, nat_tests) }

-- the root has the bounds
root_bounds : (n : ℕ) → IsRoot n (root n)
unfolding root
root_bounds zero = record { fits = omega arith; most = omega arith }
root_bounds (suc n) = next_bounds n (root n) (root_bounds n)

-- of two squares the less is that of the less number
pub root_below : (a b : ℕ) → a * a < (b + 1) * (b + 1) → a < b + 1
root_below a b below = lt_of_not-le (λ above. let squares = mul-le (b + 1) (b + 1) a a above above in absurd (omega (arith, squares)))

-- what has the bounds is the root
pub is_root : (n r : ℕ) → IsRoot n r → root n ≡ r
is_root n r bounds =
    let own = root_bounds n in
    let below = root_below (root n) r (omega (arith, own.fits, bounds.most)) in
    let above = root_below r (root n) (omega (arith, bounds.fits, own.most)) in
    omega (arith, below, above)
