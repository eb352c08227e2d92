-- The whole square root.
use Rattle.std.specs.Prelude.{ℕ, zero, suc, ◌+◌, ◌*◌, ◌≤◌, ◌<◌, nat_le, if◌then◌else◌}

-- r is the square root of n, rounded down: its square is at most n, and that of the next number is above n
pub record IsRoot (n r : ℕ) : Type 0 where
  pub fits : r * r ≤ n
  pub most : n < (r + 1) * (r + 1)

-- the root of n, if that of the number before n is r
abbrev pub next_root : ℕ → ℕ → ℕ
next_root n r = if nat_le ((r + 1) * (r + 1)) n then r + 1 else r

-- the square root of a number, rounded down
unfoldable pub root : ℕ → ℕ
root zero = 0
root (suc n) = next_root (suc n) (root n)
