-- A division rounded down or up has its two bounds, and no other number has them.
use Rattle.std.proofs.Common.{◌≡◌, ℕ, ◌+◌, ◌-◌, ◌*◌, ◌/◌, ◌<◌, ◌≤◌, arith, sym}
use Rattle.std.specs.Int.{div_ceil}
use Rattle.std.proofs.lemmas.Grind.{div_ceil_times}
use Rattle.std.proofs.Math.Nat.{div-mul-le_self, lt-div-mul-add, div-eq_of_lt-le, div-le_of_le-mul, lt_of_mul-lt-mul_right, mul_comm}
use Rattle.base_num.specs.Division.{IsFloor, IsCeiling, ceiling}

-- the quotient has the bounds
pub floor_bounds : (n d : ℕ) → 1 ≤ d → IsFloor n d (n / d)
floor_bounds n d some = let below = lt-div-mul-add {a = n} some in record { fits = div-mul-le_self n d; most = omega (arith, below) }

-- what has the bounds is the quotient
pub is_floor : (n d q : ℕ) → IsFloor n d q → n / d ≡ q
is_floor n d q floor = div-eq_of_lt-le d floor.fits floor.most

pub ceiling_bounds : (n d : ℕ) → 1 ≤ d → IsCeiling n d (ceiling n d)
ceiling_bounds n d some =
    let below = lt-div-mul-add {a = n + (d - 1)} some in
    let above = div-mul-le_self (n + (d - 1)) d in
    record { reaches = omega (arith, below); least = omega (arith, above) }

pub is_ceiling : (n d q : ℕ) → IsCeiling n d q → ceiling n d ≡ q
is_ceiling n d q bounds = let reaches = bounds.reaches in let least = bounds.least in div-eq_of_lt-le d (omega (arith, least)) (omega (arith, reaches))

-- std's quotient rounded up is the ceiling
pub div_ceil_is : (n d : ℕ) → 0 < d → div_ceil n d ≡ ceiling n d
div_ceil_is n d some = let bounds = div_ceil_times n d some in sym (is_ceiling n d (div_ceil n d) (record { reaches = bounds.0; least = bounds.1 }))

-- a quotient is at most k if k divisors reach the number
pub quotient_below : (n d k : ℕ) → n ≤ k * d → n / d ≤ k
quotient_below n d k below = div-le_of_le-mul d (rw (mul_comm d k) below)

-- a quotient rounded up is at most k if k divisors reach the number
pub ceiling_below : (n d k : ℕ) → 1 ≤ d → n ≤ k * d → ceiling n d ≤ k
ceiling_below n d k some below =
    let bounds = ceiling_bounds n d some in
    let less : ceiling n d * d < (k + 1) * d = omega (arith, bounds.least, below) in
    let bound : ceiling n d < k + 1 = lt_of_mul-lt-mul_right d less in
    omega (arith, bound)

pub ruleset quotients = (floor_bounds, is_floor, ceiling_bounds, is_ceiling, div_ceil_is)
