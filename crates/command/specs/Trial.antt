-- What `trial` does with the text of its source. Statuses: docs/PROTOCOL.md, "Statuses".
use Rattle.std.specs.Prelude.{◌≡◌, ℕ, ◌⊎◌, List, [], ◌∷◌, take, codes, Option}
use Rattle.std.specs.Fmt.{decimal}
use Rattle.std.specs.Io.KnownBytes.{Appends}
use Rattle.std.specs.Str.Lines.{lines}
use Rattle.founding.specs.Founding.{Founds, IsBadAt, IsUnfinished}
use Rattle.reply_text.specs.Words.{line}
use Rattle.request_text.specs.LineReading.{Known}
use Rattle.tick_model.specs.Standing.{Stands}
use Rattle.tick_model.specs.Universe.{Universe}
use Rattle.request_text.specs.declared.entry.Entry.{Entry}
use Rattle.command.specs.Answers.{AnsweredAll, AnsweredPart, BrokeOff}
use Rattle.command.specs.declared.status.TheConstants.{DONE, SOURCE_FAULT, SINK_FAULT, TOO_LONG, NOT_FOUNDED}

-- the words of the command
abbrev pub IsTrial : List (List ℕ) → Type 0
IsTrial words = words ≡ codes "trial" ∷ []

-- The text was read to its end. It begins with a founding text, and all lines after that were answered from the universe that it
-- founds, with this history; `now` is what they left of it.
pub record Tried (text more : List ℕ) (told_before told_after written_before written_after : Option (List ℕ)) : Type 0 where
  pub base : Universe
  pub capacity : ℕ
  pub history : List Entry
  pub now : Universe
  pub rest : List ℕ
  pub founds : Founds (lines text) base capacity (lines rest)
  pub ended : more ≡ []
  pub stands : Stands base history now
  pub all : AnsweredAll base history (lines rest) told_before told_after written_before written_after

-- the same of the lines that were taken whole
pub record TriedPart (text more : List ℕ) (told_before told_after written_before written_after : Option (List ℕ)) : Type 0 where
  pub base : Universe
  pub capacity : ℕ
  pub history : List Entry
  pub now : Universe
  pub rest : List ℕ
  pub founds : Founds (lines text) base capacity (lines rest)
  pub stands : Stands base history now
  pub part : AnsweredPart base history rest more told_before told_after written_before written_after

-- the founding text has not ended in what was taken of it, and nothing was written
pub record Unfounded (text more : List ℕ) (told_before told_after written_before written_after : Option (List ℕ)) : Type 0 where
  pub unfinished : IsUnfinished text more
  pub untold : told_after ≡ told_before
  pub unwritten : written_after ≡ written_before

-- the sink broke off among the answers
pub record TriedBroken (text : List ℕ) (told_before told_after written_before written_after : Option (List ℕ)) : Type 0 where
  pub base : Universe
  pub capacity : ℕ
  pub history : List Entry
  pub now : Universe
  pub rest : List ℕ
  pub founds : Founds (lines text) base capacity (lines rest)
  pub stands : Stands base history now
  pub broke_off : BrokeOff base history (lines rest) told_before told_after written_before written_after

-- the line that names the first bad line of a founding text
abbrev pub bad_founding : ℕ → List ℕ
bad_founding number = line (codes "bad" ∷ codes "founding" ∷ decimal number ∷ [])

-- the text begins with no founding text, and its first bad line was named
pub record NamedBad (text : List ℕ) (written_before written_after : Option (List ℕ)) : Type 0 where
  pub number : ℕ
  pub bad : IsBadAt (lines text) number
  pub wrote : Appends written_before written_after (bad_founding number)

-- the same, but the sink has only a front of the line
pub record NamedBroken (text : List ℕ) (written_before written_after : Option (List ℕ)) : Type 0 where
  pub number : ℕ
  pub bad : IsBadAt (lines text) number
  pub count : ℕ
  pub wrote : Appends written_before written_after (take count (bad_founding number))

-- What `trial` has read and written with each status, by what the source had left before and after, what the clock told, and what
-- was written.
pub record Trial (status : ℕ) (left_before left_after told_before told_after written_before written_after : Option (List ℕ)) : Type 0 where
  pub done : status ≡ DONE → Known left_before left_after (λ text more. Tried text more told_before told_after written_before written_after)
  pub partly : (status ≡ SOURCE_FAULT) ⊎ (status ≡ TOO_LONG) → Known left_before left_after (λ text more.
      Unfounded text more told_before told_after written_before written_after ⊎ TriedPart text more told_before told_after written_before written_after)
  pub broken : status ≡ SINK_FAULT → Known left_before left_after (λ text more.
      TriedBroken text told_before told_after written_before written_after ⊎ NamedBroken text written_before written_after)
  pub not_founded : status ≡ NOT_FOUNDED → Known left_before left_after (λ text more. NamedBad text written_before written_after)
