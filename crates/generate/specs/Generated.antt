-- The whole generated text. Rule: docs/FORMATS.md, "The generated text".
use Rattle.std.specs.Prelude.{ℕ, zero, suc, List, [], ◌++◌}
use Rattle.generate.specs.Founded.{founded}
use Rattle.generate.specs.Turns.{turn_after, turn_line}

-- the first so many lines of requests
unfoldable pub script : ℕ → ℕ → List ℕ
script seed zero = []
script seed (suc count) = script seed count ++ turn_line (suc count) (turn_after seed count)

-- a founding text and so many lines of requests, all drawn from a seed
abbrev pub generated : ℕ → ℕ → List ℕ
generated seed lines = founded seed lines ++ script seed lines
