-- The lines of requests of a generated text, each with its draws in their order. Rule: docs/FORMATS.md, "The generated
-- text".
use Rattle.std.specs.Prelude.{ℕ, zero, suc, ◌+◌, List, ◌∷◌, get_or}
use Rattle.std.specs.Fmt.{decimal}
use Rattle.draws.specs.Draws.{after, stream_start}
use Rattle.reply_text.specs.Words.{line}
use Rattle.generate.specs.Drawing.{drawn}
use Rattle.generate.specs.Errands.{errand_words, errands, own_draws}
use Rattle.generate.specs.Homes.{drawn_player, drawn_position}
use Rattle.generate.specs.declared.errand.Errand.{Errand}
use Rattle.generate.specs.declared.errand.Errand.TheVariants.{Planet}
use Rattle.generate.specs.declared.script.Turn.{Turn}

-- the reading of the next line: the last one and the first draw
abbrev pub next_reading : Turn → ℕ
next_reading turn = turn.reading + drawn turn.draws 0 120

-- the next two draws give the player and his planet, and the fourth the errand
abbrev pub next_errand : Turn → Errand
next_errand turn = get_or errands (drawn turn.draws 3 10) Planet

-- the words of its request
abbrev pub next_request : ℕ → Turn → List (List ℕ)
next_request number turn =
    errand_words (next_errand turn) number (drawn_player (after 1 turn.draws)) (drawn_position (after 1 turn.draws)) (after 4 turn.draws)

-- the words of the line of this number, and the line: `@R K REQUEST`
abbrev pub turn_words : ℕ → Turn → List (List ℕ)
turn_words number turn = (64 ∷ decimal (next_reading turn)) ∷ decimal (drawn_player (after 1 turn.draws)) ∷ next_request number turn

abbrev pub turn_line : ℕ → Turn → List ℕ
turn_line number turn = line (turn_words number turn)

-- where the generator stands after it
abbrev pub next_turn : Turn → Turn
next_turn turn = record { reading = next_reading turn; draws = after (own_draws (next_errand turn)) (after 4 turn.draws) }

-- where it stands after so many lines
unfoldable pub turn_after : ℕ → ℕ → Turn
turn_after seed zero = record { reading = 0; draws = stream_start seed 0 }
turn_after seed (suc count) = next_turn (turn_after seed count)
