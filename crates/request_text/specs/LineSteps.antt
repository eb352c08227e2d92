-- What the steps of a line reader do. No public clause cites this file.
use Rattle.std.specs.Prelude.{◌≡◌, ℕ, ◌<◌, ◌⊎◌, true, false, List, take, Option}
use Rattle.std.specs.Io.KnownBytes.{IsAtEnd}
use Rattle.ports.specs.Causes.{Rose}
use Rattle.request_text.specs.LineReading.{answered_line, kept, taken, Leaves}
use Rattle.request_text.specs.declared.line_reader.TheConstants.{LONGEST_LINE, MOST_TAKEN}
use Rattle.request_text.specs.declared.line_reader.LineReader.{LineReader}
use Rattle.request_text.specs.declared.line_reader.Stage.TheVariants.{Open}
use Rattle.request_text.specs.declared.line_reader.Refilled.{Refilled}
use Rattle.request_text.specs.declared.line_reader.Refilled.TheVariants.{More, AtEnd, Failing, Full}
use Rattle.request_text.specs.declared.line_reader.Line.{Line}
use Rattle.request_text.specs.declared.line_reader.Line.TheVariants.{Text, Long, End, Fault, Spent}

-- it may read on, and keeps no bytes that an answer stands for
pub record IsReading (reader : LineReader) : Type 0 where
  pub open_yet : reader.stage ≡ Open
  pub untold : reader.line ≡ 0
  pub unanswered : reader.answered ≡ 0

-- what came of reading on: more bytes were taken, the input ended, a read failed, or no more may be taken
abbrev pub Refills : LineReader → LineReader → Option (List ℕ) → ℕ → ℕ → Refilled → Type 0
Refills old new left before after More = (taken old < taken new) × (after ≡ before) × IsReading new
Refills old new left before after AtEnd = IsAtEnd left × (after ≡ before) × (taken new < MOST_TAKEN) × (kept new ≡ kept old) × IsReading new
Refills old new left before after Failing = Rose before after × Leaves new Fault
Refills old new left before after Full = (after ≡ before) × Leaves new Spent

-- the line that ends in the first so many bytes that are kept is a text or is long
abbrev pub Answers : LineReader → ℕ → LineReader → Line → Type 0
Answers old count new (Text n) = (n ≡ count) × (old.long ≡ false) × (answered_line new ≡ take count (kept old))
Answers old count new Long = (old.long ≡ true) ⊎ (LONGEST_LINE < count)
Answers old count new End = ⊥
Answers old count new Fault = ⊥
Answers old count new Spent = ⊥
