-- What is answered to the lines of a script. Rules: docs/PROTOCOL.md, "The script" and "Answers".
use Rattle.std.specs.Prelude.{◌≡◌, ℕ, ◌<◌, ◌≤◌, Bool, true, false, List, [], ◌∷◌, ◌++◌, length, codes, Option, None, Some}
use Rattle.request_text.specs.Grammar.{Spells}
use Rattle.request_text.specs.declared.call.Call.{Call}
use Rattle.request_text.specs.declared.entry.Entry.{Entry}
use Rattle.request_text.specs.declared.line_reader.TheConstants.{LONGEST_LINE}
use Rattle.tick_model.specs.Universe.{Universe}
use Rattle.reply_text.specs.Heads.{refused_text, text}
use Rattle.reply_text.specs.declared.reply.Refused.TheVariants.{Memory}
use Rattle.reply_text.specs.Words.{line}
use Rattle.tick_model.specs.World.{reply}

-- a line of a script asks for something: it spells a call
abbrev pub AsksFor : List ℕ → Call → Type 0
AsksFor line call = Spells true line call

-- a line asks for nothing
abbrev pub AsksNothing : List ℕ → Type 0
AsksNothing line = (call : Call) → AsksFor line call → ⊥

-- an entry of a history is of a call that came at this reading
pub record IsOf (call : Call) (came : ℕ) (entry : Entry) : Type 0 where
  pub reading : entry.reading ≡ came
  pub player : entry.player ≡ call.player
  pub req : entry.req ≡ call.req

-- A call came at a reading, for which it took these readings from the clock: none if it names the reading, else that one.
abbrev pub CameAt : Option ℕ → ℕ → List ℕ → Type 0
CameAt (Some named) reading taken = (reading ≡ named) × (taken ≡ [])
CameAt None reading taken = taken ≡ reading ∷ []

-- what a line is answered that asks for nothing, one that is longer than 400 bytes, and one whose request found no memory
abbrev pub bad_line : List ℕ
bad_line = line (codes "bad" ∷ codes "1" ∷ [])

abbrev pub long_line : List ℕ
long_line = line (codes "bad" ∷ codes "2" ∷ [])

abbrev pub memory_line : List ℕ
memory_line = refused_text Memory

-- Talk base before later lines lacking readings bytes: after the entries `before`, the entries `later` are those of the lines,
-- `lacking` says of each line whether its request found no memory, the clock told the readings, and the bytes are one
-- answer for each line, in order. A line that is longer than 400 bytes is answered `bad 2`, any other line that asks for
-- nothing `bad 1`; neither has an entry or a reading. Any other line asks for a call, which came at a reading. It has the
-- next entry, and is answered with the text of that entry's reply; or it found no memory, is answered `memory`, and has no
-- entry.
pub data Talk (base : Universe) : List Entry → List Entry → List (List ℕ) → List Bool → List ℕ → List ℕ → Type 0 where
  nothing_left : (before : List Entry) → Talk base before [] [] [] [] []
  long : (before later : List Entry) (first : List ℕ) (rest : List (List ℕ)) (lacking : List Bool) (readings bytes : List ℕ)
      → LONGEST_LINE < length first → Talk base before later rest lacking readings bytes
      → Talk base before later (first ∷ rest) (false ∷ lacking) readings (long_line ++ bytes)
  bad : (before later : List Entry) (first : List ℕ) (rest : List (List ℕ)) (lacking : List Bool) (readings bytes : List ℕ)
      → length first ≤ LONGEST_LINE → AsksNothing first → Talk base before later rest lacking readings bytes
      → Talk base before later (first ∷ rest) (false ∷ lacking) readings (bad_line ++ bytes)
  answered : (before later : List Entry) (first : List ℕ) (rest : List (List ℕ)) (lacking : List Bool) (taken readings bytes : List ℕ) (call : Call) (reading : ℕ) (entry : Entry)
      → length first ≤ LONGEST_LINE → AsksFor first call → CameAt call.reading reading taken → IsOf call reading entry
      → Talk base (before ++ entry ∷ []) later rest lacking readings bytes
      → Talk base before (entry ∷ later) (first ∷ rest) (false ∷ lacking) (taken ++ readings) (text (reply base before entry) ++ bytes)
  unanswered : (before later : List Entry) (first : List ℕ) (rest : List (List ℕ)) (lacking : List Bool) (taken readings bytes : List ℕ) (call : Call) (reading : ℕ)
      → length first ≤ LONGEST_LINE → AsksFor first call → CameAt call.reading reading taken
      → Talk base before later rest lacking readings bytes
      → Talk base before later (first ∷ rest) (true ∷ lacking) (taken ++ readings) (memory_line ++ bytes)
