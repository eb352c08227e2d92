-- The grammar of lines: which lines spell which call. Each call is spelled by one list of words.
-- Rule: docs/PROTOCOL.md, "The script".
use Rattle.std.specs.Prelude.{◌≡◌, ℕ, List, ◌∷◌, Bool, true, false, Option, None, Some, IsNone}
use Rattle.std.specs.Fmt.{decimal}
use Rattle.base_text.specs.Parts.{words}
use Rattle.base_ids.specs.Text.{player_text}
use Rattle.request_text.specs.Words.{request_words}
use Rattle.request_text.specs.declared.call.Call.{Call}

-- the words before the player: @ and the reading, if one is named
abbrev pub timed_words : Option ℕ → List (List ℕ) → List (List ℕ)
timed_words None more = more
timed_words (Some reading) more = (64 ∷ decimal reading) ∷ more

-- the words that spell a call: the reading, the player, and the request
abbrev pub call_words : Call → List (List ℕ)
call_words call = timed_words call.reading (player_text call.player ∷ request_words call.req)

-- only a line of a script may name a reading
abbrev pub AllowsReading : Bool → Option ℕ → Type 0
AllowsReading true reading = Unit {0}
AllowsReading false reading = IsNone reading

-- A line of a script, or of a connection, spells a call if its words, with one space between them, are the call's.
pub record Spells (script : Bool) (line : List ℕ) (call : Call) : Type 0 where
  pub may : AllowsReading script call.reading
  pub same : words line ≡ call_words call

-- no call is spelled so
abbrev pub IsOutside : Bool → List ℕ → Type 0
IsOutside script line = (call : Call) → Spells script line call → ⊥
