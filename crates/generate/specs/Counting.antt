-- Texts that are numbered from 1.
use Rattle.std.specs.Prelude.{ℕ, zero, suc, List, [], ◌++◌}

-- the first so many of the texts, one after the other
unfoldable pub each : (ℕ → List ℕ) → ℕ → List ℕ
each text zero = []
each text (suc count) = each text count ++ text (suc count)
