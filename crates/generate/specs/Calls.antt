-- What the lines of requests are. Rules: docs/PROTOCOL.md, "The script", and docs/FORMATS.md, "The generated text".
use Rattle.std.specs.Prelude.{ℕ, ◌+◌, ◌<◌, true}
use Rattle.std.specs.List.{join_with_byte}
use Rattle.request_text.specs.Grammar.{Spells}
use Rattle.request_text.specs.declared.call.Call.{Call}
use Rattle.generate.specs.Turns.{turn_after, turn_words}

-- each of the first so many lines of requests spells a call of a script
abbrev pub AreCalls : ℕ → ℕ → Type 0
AreCalls seed lines =
    (before : ℕ) → before < lines → (call : Call) × Spells true (join_with_byte 32 (turn_words (before + 1) (turn_after seed before))) call
