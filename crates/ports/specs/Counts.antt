-- Counts that stop at 2^64 - 1, and how much one call moves.
use Rattle.std.specs.Prelude.{ℕ, ◌+◌, ◌-◌, ◌^◌, min, max, Result, is_ok, if◌then◌else◌}

-- the count one higher, or its last value, 2^64 - 1
abbrev pub next_count : ℕ → ℕ
next_count n = min (n + 1) (2 ^ 64 - 1)

-- the count of faults after a call with this result
abbrev pub faults_after : {T E : Type 0} → ℕ → Result T E → ℕ
faults_after n result = (if is_ok result then n else next_count n)

-- how many of n bytes a call moves that moves at most so many, and one at least
abbrev pub piece_of : ℕ → ℕ → ℕ
piece_of n most = min n (max most 1)
