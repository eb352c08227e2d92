-- The lines of replies as words, and the lines of kinds that have a number.
use Rattle.std.specs.Prelude.{ℕ, List, [], ◌∷◌, ◌++◌, ◌==◌, codes, if◌then◌else◌}
use Rattle.std.specs.List.{join_with_byte}
use Rattle.std.specs.Fmt.{decimal}
use Rattle.catalog.specs.Kinds.{kind_word}
use Rattle.catalog.specs.declared.kind.Kind.{Kind}

-- words with one space between them, and a line feed
unfoldable pub line : List (List ℕ) → List ℕ
line words = join_with_byte 32 words ++ codes "\n"

-- LABEL KIND NUMBER, or nothing if the number is the usual one
abbrev pub kind_line : List ℕ → ℕ → Kind → ℕ → List ℕ
kind_line label usual kind number =
    if number == usual then [] else line (label ∷ kind_word kind ∷ decimal number ∷ [])

-- that line for each kind with its number
unfoldable pub kind_lines : List ℕ → ℕ → List Kind → List ℕ → List ℕ
kind_lines label usual [] numbers = []
kind_lines label usual (kind ∷ kinds) [] = []
kind_lines label usual (kind ∷ kinds) (number ∷ numbers) =
    kind_line label usual kind number ++ kind_lines label usual kinds numbers
