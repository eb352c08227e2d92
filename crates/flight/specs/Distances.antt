-- How far apart two places are. Rule: docs/RULES.md, "Distances, speeds and flights".
use Rattle.std.specs.Prelude.{ℕ, ◌+◌, ◌*◌, ◌==◌, if◌then◌else◌}
use Rattle.std.specs.Int.{abs_diff}
use Rattle.base_ids.specs.declared.coord.Coord.{Coord}

-- between two places of one system
abbrev pub distance_in_system : ℕ → ℕ → ℕ
distance_in_system p q = if p == q then 5 else 1000 + 5 * abs_diff p q

-- between two places: by position in one system, by system in one galaxy, else by galaxy
abbrev pub distance_of : Coord → Coord → ℕ
distance_of a b = if a.g == b.g then (if a.s == b.s then distance_in_system a.p b.p else 2700 + 95 * abs_diff a.s b.s) else 20000 * abs_diff a.g b.g
