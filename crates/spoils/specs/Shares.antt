-- A share of a room: of what is there as much as a part of the room holds, floored. Rule: docs/RULES.md, "Loot" and
-- "Harvest".
use Rattle.std.specs.Prelude.{ℕ, ◌+◌, ◌*◌, ◌≤◌, ◌<◌}

-- taken is the share of one of so many equal parts: no more than is there, no more than the part, and if more is there,
-- one more would be too much for the part
pub record IsShare (room parts there taken : ℕ) : Type 0 where
  pub within : taken ≤ there
  pub fits : taken * parts ≤ room
  pub most : taken < there → room < (taken + 1) * parts
