-- What comes of reading the founding text of a source. Rule: docs/PROTOCOL.md, "The founding text".
use Rattle.std.specs.Prelude.{◌≡◌, ℕ, ◌⊎◌, List, Option}
use Rattle.std.specs.Str.Lines.{lines}
use Rattle.base_bytes.specs.Base.{universe_of}
use Rattle.base_bytes.specs.declared.base.Base.{Base}
use Rattle.founding.specs.Founding.{Founds, IsUnfinished}
use Rattle.request_text.specs.LineReading.{Known, Sees}
use Rattle.request_text.specs.declared.line_reader.LineReader.{LineReader}
use Rattle.command.specs.Trial.{NamedBad, NamedBroken}
use Rattle.command.specs.declared.status.TheConstants.{SOURCE_FAULT, SINK_FAULT, TOO_LONG, NOT_FOUNDED}

-- the text begins with a founding text, and the base is what it founds
pub record IsFoundedBy (text : List ℕ) (base : Base) : Type 0 where
  pub rest : List ℕ
  pub founds : Founds (lines text) (universe_of base) base.capacity (lines rest)

-- the same, and the reader sees what stands behind the text's `.`
pub record IsReadTo (text : List ℕ) (reader : LineReader) (more : List ℕ) (base : Base) : Type 0 where
  pub rest : List ℕ
  pub founds : Founds (lines text) (universe_of base) base.capacity (lines rest)
  pub sees : Sees reader more rest

-- Not all of a text was taken. What was taken begins a founding text, or a whole one stands at the text's front.
pub data IsReadPart (text more : List ℕ) : Type 0 where
  within : IsUnfinished text more → IsReadPart text more
  behind : (base : Base) → IsFoundedBy text base → IsReadPart text more

-- What was read and written with each status with which no base was read. If the source stopped, `partly_read` holds of what it
-- had left before and after.
pub record LacksBase (partly_read : List ℕ → List ℕ → Type 0) (status : ℕ) (left_before left_after written_before written_after : Option (List ℕ)) : Type 0 where
  pub partly : (status ≡ SOURCE_FAULT) ⊎ (status ≡ TOO_LONG) → Known left_before left_after partly_read
  pub broken : status ≡ SINK_FAULT → Known left_before left_after (λ text more. NamedBroken text written_before written_after)
  pub not_founded : status ≡ NOT_FOUNDED → Known left_before left_after (λ text more. NamedBad text written_before written_after)
