-- The parts of a text that a cursor has left.
use Rattle.std.specs.Prelude.{ℕ, List, [], ◌∷◌, Option, None, Some, option_copied}
use Rattle.base_text.specs.Parts.{parts_of}
use Rattle.base_text.specs.declared.cursor.Piece.{Piece}

-- the part that comes next, and the parts after it
abbrev pub pieces : ℕ → Option Piece → List (List ℕ)
pieces separator None = []
pieces separator (Some piece) = piece.part.now ∷ parts_of separator (option_copied piece.rest)
