-- How the lines of a script are answered. Rules: docs/PROTOCOL.md, "The script" and "Answers".
use Rattle.std.specs.Prelude.{◌≡◌, ℕ, ◌<◌, ◌≤◌, List, [], ◌++◌, length, take, Bool, Option}
use Rattle.std.specs.Io.KnownBytes.{Appends}
use Rattle.std.specs.Str.Lines.{lines}
use Rattle.base_text.specs.Parts.{Lacks}
use Rattle.ports.specs.Readings.{TellsReadings}
use Rattle.request_text.specs.LineReading.{answered_line}
use Rattle.request_text.specs.declared.call.Call.{Call}
use Rattle.request_text.specs.declared.entry.Entry.{Entry}
use Rattle.request_text.specs.declared.line_reader.LineReader.{LineReader}
use Rattle.request_text.specs.declared.line_reader.TheConstants.{LONGEST_LINE}
use Rattle.request_text.specs.declared.line_reader.Told.{Told}
use Rattle.request_text.specs.declared.line_reader.Told.TheVariants.{Text, Long}
use Rattle.lazy.specs.Keeping.{Asks, Keeps}
use Rattle.lazy.specs.declared.universe.LazyUniverse.{LazyUniverse}
use Rattle.reply_text.specs.Heads.{text}
use Rattle.reply_text.specs.declared.reply.Reply.{Reply}
use Rattle.tick_model.specs.Talk.{AsksFor, AsksNothing, CameAt, Talk, bad_line, long_line, memory_line}
use Rattle.tick_model.specs.Universe.{Universe}
use Rattle.command.specs.declared.answering.Answer.{Answer}
use Rattle.command.specs.declared.answering.Answer.TheVariants as A

-- the bytes of an answer, if the reply has this text
abbrev pub answer_text : Answer → List ℕ → List ℕ
answer_text A.Bad reply = bad_line
answer_text A.Long reply = long_line
answer_text A.Memory reply = memory_line
answer_text A.Reply reply = reply

-- Turn old line new taken bytes: the line was answered with the bytes, which made the new universe of the old one, and for which the
-- readings `taken` were taken from the clock. A line that asks for a call is answered by asking the universe; or no memory was
-- found for that, and the universe is as it was.
pub data Turn (old : LazyUniverse) (line : List ℕ) : LazyUniverse → List ℕ → List ℕ → Type 0 where
  too_long : LONGEST_LINE < length line → Turn old line old [] long_line
  asks_nothing : length line ≤ LONGEST_LINE → AsksNothing line → Turn old line old [] bad_line
  asked : (call : Call) (reading : ℕ) (taken : List ℕ) (new : LazyUniverse) (reply : Reply)
      → length line ≤ LONGEST_LINE → AsksFor line call → CameAt call.reading reading taken → Asks old new call.player call.req reading reply
      → Turn old line new taken (text reply)
  lacks_memory : (call : Call) (reading : ℕ) (taken : List ℕ)
      → length line ≤ LONGEST_LINE → AsksFor line call → CameAt call.reading reading taken
      → Turn old line old taken memory_line

-- a line was answered so, by what the clock told before and after
abbrev pub Turns : LazyUniverse → LazyUniverse → Option (List ℕ) → Option (List ℕ) → List ℕ → List ℕ → Type 0
Turns old new told_before told_after line bytes = (taken : List ℕ) × TellsReadings told_before told_after taken × Turn old line new taken bytes

-- what a reader told stands for this line
abbrev pub IsTold : LineReader → Told → List ℕ → Type 0
IsTold reader (Text n) line = (line ≡ answered_line reader) × (length line ≤ LONGEST_LINE)
IsTold reader Long line = LONGEST_LINE < length line

-- These lines were answered from a base on, by what the clock told before and after: the bytes are the talk of this history.
pub record Answered (base : Universe) (history : List Entry) (script : List (List ℕ)) (told_before told_after : Option (List ℕ)) (bytes : List ℕ) : Type 0 where
  pub lacking : List Bool
  pub readings : List ℕ
  pub talk : Talk base [] history script lacking readings bytes
  pub tells : TellsReadings told_before told_after readings

-- these lines were answered, and the sink has all answers
pub record AnsweredAll (base : Universe) (history : List Entry) (script : List (List ℕ)) (told_before told_after written_before written_after : Option (List ℕ)) : Type 0 where
  pub bytes : List ℕ
  pub answered : Answered base history script told_before told_after bytes
  pub wrote : Appends written_before written_after bytes

-- All whole lines that were taken of a text were answered, and `more` is left in the source: what was taken is those lines and
-- then a piece without a line feed.
pub record AnsweredPart (base : Universe) (history : List Entry) (text more : List ℕ) (told_before told_after written_before written_after : Option (List ℕ)) : Type 0 where
  pub said : List ℕ
  pub pending : List ℕ
  pub parts : text ≡ said ++ (pending ++ more)
  pub unbroken : Lacks 10 pending
  pub all : AnsweredAll base history (lines said) told_before told_after written_before written_after

-- The sink broke off: the lines that were taken were answered, and it has a front of their answers.
pub record BrokeOff (base : Universe) (history : List Entry) (script : List (List ℕ)) (told_before told_after written_before written_after : Option (List ℕ)) : Type 0 where
  pub taken_lines : List (List ℕ)
  pub rest : List (List ℕ)
  pub parts : script ≡ taken_lines ++ rest
  pub bytes : List ℕ
  pub answered : Answered base history taken_lines told_before told_after bytes
  pub count : ℕ
  pub wrote : Appends written_before written_after (take count bytes)

-- the universe keeps a history from a base, of which this holds
abbrev pub KeepsOne : Universe → LazyUniverse → (List Entry → Type 0) → Type 0
KeepsOne base universe P = (history : List Entry) × Keeps base history universe × P history
