-- The roots of flights are small.
use Rattle.std.proofs.Common.{ℕ, ◌<◌, ◌^◌, arith}
use Rattle.base_num.specs.Root.{IsRoot}
use Rattle.base_num.proofs.Rooting.{root_below}

-- the root of a number below 2^66
pub root_to : (n r : ℕ) → IsRoot n r → n < 2 ^ 66 → r < 2 ^ 33
root_to n r bounds within = root_below r 8589934591 (omega (arith, bounds.fits))
