-- Division of whole numbers, rounded down or up. Each is the one number within two bounds.
use Rattle.std.specs.Prelude.{ℕ, ◌+◌, ◌-◌, ◌*◌, ◌/◌, ◌≤◌, ◌<◌}

-- q is n by d, rounded down: q times d is at most n, and one more is too many
pub record IsFloor (n d q : ℕ) : Type 0 where
  pub fits : q * d ≤ n
  pub most : n < (q + 1) * d

-- q is n by d, rounded up: q times d reaches n, and one less does not
pub record IsCeiling (n d q : ℕ) : Type 0 where
  pub reaches : n ≤ q * d
  pub least : q * d < n + d

-- n by d, rounded up
abbrev pub ceiling : ℕ → ℕ → ℕ
ceiling n d = (n + (d - 1)) / d
