-- How long a flight takes. Rule: docs/RULES.md, "Distances, speeds and flights".
use Rattle.std.specs.Prelude.{ℕ, ◌+◌, ◌*◌, ◌/◌}
use Rattle.base_num.specs.Division.{IsCeiling, IsFloor, ceiling}
use Rattle.base_num.specs.Root.{IsRoot, root}

-- The time comes from the root of a quotient. This is what is divided, over a distance d,
abbrev pub way : ℕ → ℕ
way d = 35000 * 35000 * 10 * d

-- and this is what it is divided by, at a fleet's speed v and a speed setting p.
abbrev pub pace : ℕ → ℕ → ℕ
pace v p = p * p * v

-- the seconds of a flight in a universe of this speed
abbrev pub flight_seconds : ℕ → ℕ → ℕ → ℕ → ℕ
flight_seconds d v p speed = ceiling (10 + root (way d / pace v p)) speed

-- the same by bounds: a quotient rounded down, its root rounded down, and a quotient rounded up
pub record IsFlightTime (d v p speed seconds : ℕ) : Type 0 where
  pub quotient : ℕ
  pub whole_root : ℕ
  pub divided : IsFloor (way d) (pace v p) quotient
  pub rooted : IsRoot quotient whole_root
  pub sped : IsCeiling (10 + whole_root) speed seconds
