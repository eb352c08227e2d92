-- What `trial dump` does with the text of its source. Statuses: docs/PROTOCOL.md, "Statuses".
use Rattle.std.specs.Prelude.{◌≡◌, ℕ, ◌⊎◌, List, [], ◌∷◌, take, codes, Option}
use Rattle.std.specs.Io.KnownBytes.{Appends}
use Rattle.request_text.specs.LineReading.{Known}
use Rattle.tick_model.specs.Dump.{dump_text}
use Rattle.command.specs.Trial.{NamedBad, NamedBroken, Tried, TriedBroken, TriedPart, Unfounded}
use Rattle.command.specs.declared.status.TheConstants.{DONE, SOURCE_FAULT, SINK_FAULT, TOO_LONG, NOT_FOUNDED}

-- the words of the command
abbrev pub IsTrialDump : List (List ℕ) → Type 0
IsTrialDump words = words ≡ codes "trial" ∷ codes "dump" ∷ []

-- All lines were answered as by `trial`, and after the answers the text of the whole universe was written, by the base and the history
-- of these answers.
pub record Dumped (text more : List ℕ) (told_before told_after written_before written_after : Option (List ℕ)) : Type 0 where
  pub answers_written : Option (List ℕ)
  pub tried : Tried text more told_before told_after written_before answers_written
  pub wrote : Appends answers_written written_after (dump_text tried.base tried.history)

-- the same, but the sink has only a front of that text
pub record DumpBroken (text more : List ℕ) (told_before told_after written_before written_after : Option (List ℕ)) : Type 0 where
  pub answers_written : Option (List ℕ)
  pub tried : Tried text more told_before told_after written_before answers_written
  pub count : ℕ
  pub wrote : Appends answers_written written_after (take count (dump_text tried.base tried.history))

-- What `trial dump` has read and written with each status but out of memory, by what the source had left before and after, what the
-- clock told, and what was written.
pub record TrialDump (status : ℕ) (left_before left_after told_before told_after written_before written_after : Option (List ℕ)) : Type 0 where
  pub done : status ≡ DONE → Known left_before left_after (λ text more. Dumped text more told_before told_after written_before written_after)
  pub partly : (status ≡ SOURCE_FAULT) ⊎ (status ≡ TOO_LONG) → Known left_before left_after (λ text more.
      Unfounded text more told_before told_after written_before written_after ⊎ TriedPart text more told_before told_after written_before written_after)
  pub broken : status ≡ SINK_FAULT → Known left_before left_after (λ text more.
      TriedBroken text told_before told_after written_before written_after
      ⊎ DumpBroken text more told_before told_after written_before written_after
      ⊎ NamedBroken text written_before written_after)
  pub not_founded : status ≡ NOT_FOUNDED → Known left_before left_after (λ text more. NamedBad text written_before written_after)
