-- Whether words name a reading of the clock. Rule: docs/PROTOCOL.md, "The script".
use Rattle.std.specs.Prelude.{ℕ, List, [], ◌∷◌, ◌==◌, Bool, false}

-- the first of the words begins with @
abbrev pub is_timed : List (List ℕ) → Bool
is_timed [] = false
is_timed ([] ∷ words) = false
is_timed ((byte ∷ bytes) ∷ words) = byte == 64
