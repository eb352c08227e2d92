-- How many of a kind of defence stand again after a battle. Rule: docs/RULES.md, "Rebuilding".
use Rattle.std.specs.Prelude.{ℕ, ◌*◌, ◌/◌}

-- seven tenths of those that were lost, floored
abbrev pub rebuilt : ℕ → ℕ
rebuilt lost = 7 * lost / 10
