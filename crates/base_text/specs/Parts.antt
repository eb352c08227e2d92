-- What stands between the separators of a text. Rule: docs/PROTOCOL.md, "Lines, words, numbers".
use Rattle.std.specs.Prelude.{ℕ, List, [], ◌==◌, ◌<◌, ◌≢◌, length, slice_index, Option, None, Some}
use Rattle.std.specs.List.{slice_split}

-- the parts of a text between its separators; a text without one is one part
abbrev pub parts : ℕ → List ℕ → List (List ℕ)
parts separator text = slice_split (λ b. b == separator) text

-- the parts of a text that may be missing
abbrev pub parts_of : ℕ → Option (List ℕ) → List (List ℕ)
parts_of separator None = []
parts_of separator (Some text) = parts separator text

-- the words of a line: the parts between its spaces, so an empty line has one empty word
abbrev pub words : List ℕ → List (List ℕ)
words line = parts 32 line

-- no byte of the text is c
pub record Lacks (c : ℕ) (text : List ℕ) : Type 0 where
  pub apart : (k : ℕ) → k < length text → slice_index text k ≢ c
