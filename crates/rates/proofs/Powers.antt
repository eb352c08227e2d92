-- The powers of 10 and 11 up to the thirtieth.
use Rattle.std.proofs.Common.{ℕ, ◌^◌, ◌≤◌, lit<}
use Rattle.std.proofs.Math.Nat.{pow-le-pow_right, one-le-pow}

pub ten_some : (level : ℕ) → 1 ≤ 10 ^ level
ten_some level = one-le-pow level 10 (lit< tt)

pub ten_below : (level : ℕ) → level ≤ 30 → 10 ^ level ≤ 10 ^ 30
ten_below level low = pow-le-pow_right {n = 10} (lit< tt) low

pub eleven_below : (level : ℕ) → level ≤ 30 → 11 ^ level ≤ 11 ^ 30
eleven_below level low = pow-le-pow_right {n = 11} (lit< tt) low

pub ruleset powers = (ten_some, ten_below, eleven_below)
