-- What was said so far can be gone on with.
use Rattle.std.proofs.Common.{ℕ, ◌<◌, ◌≤◌, List, [], ◌∷◌, ◌++◌, Bool, true, false, length, append_assoc}
use Rattle.std.proofs.lemmas.List.{append-nil}
use Rattle.request_text.specs.declared.call.Call.{Call}
use Rattle.request_text.specs.declared.entry.Entry.{Entry}
use Rattle.request_text.specs.declared.line_reader.TheConstants.{LONGEST_LINE}
use Rattle.tick_model.specs.Universe.{Universe}
use Rattle.reply_text.specs.Heads.{text}
use Rattle.tick_model.specs.Talk.{Talk, nothing_left, long, bad, answered, unanswered, AsksFor, AsksNothing, CameAt, IsOf, bad_line, long_line, memory_line}
use Rattle.tick_model.specs.World.{reply}

-- Of a script, the lines `said` have been answered by the bytes `told`, with the readings `read`; `lacking` says which found no
-- memory, and `history` are their entries: whatever talk goes on from there with more lines makes one talk with them.
pub record Told (base : Universe) (history : List Entry) (said : List (List ℕ)) (lacking : List Bool) (read told : List ℕ) : Type 0 where
  pub go_on : (later : List Entry) (more : List (List ℕ)) (wanting : List Bool) (readings bytes : List ℕ) → Talk base history later more wanting readings bytes
      → Talk base [] (history ++ later) (said ++ more) (lacking ++ wanting) (read ++ readings) (told ++ bytes)

pub told-nothing : (base : Universe) → Told base [] [] [] [] []
told-nothing base = record { go_on = λ later more wanting readings bytes talk. talk }

pub told-long : (base : Universe) (history : List Entry) (said : List (List ℕ)) (lacking : List Bool) (read told first : List ℕ) → Told base history said lacking read told
    → LONGEST_LINE < length first → Told base history (said ++ first ∷ []) (lacking ++ false ∷ []) read (told ++ long_line)
told-long base history said lacking read told first before over =
    record {
      go_on = λ later more wanting readings bytes talk.
          let now : List ℕ = long_line in
          let longer : Talk base [] (history ++ later) (said ++ first ∷ more) (lacking ++ false ∷ wanting) (read ++ readings) (told ++ (now ++ bytes)) =
          before.go_on later (first ∷ more) (false ∷ wanting) readings (now ++ bytes) (long history later first more wanting readings bytes over talk) in
          rw (append_assoc said (first ∷ []) more, append_assoc lacking (false ∷ []) wanting, append_assoc told now bytes) longer;
    }

pub told-bad : (base : Universe) (history : List Entry) (said : List (List ℕ)) (lacking : List Bool) (read told first : List ℕ) → Told base history said lacking read told
    → length first ≤ LONGEST_LINE → AsksNothing first → Told base history (said ++ first ∷ []) (lacking ++ false ∷ []) read (told ++ bad_line)
told-bad base history said lacking read told first before short outside =
    record {
      go_on = λ later more wanting readings bytes talk.
          let now : List ℕ = bad_line in
          let longer : Talk base [] (history ++ later) (said ++ first ∷ more) (lacking ++ false ∷ wanting) (read ++ readings) (told ++ (now ++ bytes)) =
          before.go_on later (first ∷ more) (false ∷ wanting) readings (now ++ bytes) (bad history later first more wanting readings bytes short outside talk) in
          rw (append_assoc said (first ∷ []) more, append_assoc lacking (false ∷ []) wanting, append_assoc told now bytes) longer;
    }

pub told-answered : (base : Universe) (history : List Entry) (said : List (List ℕ)) (lacking : List Bool) (read told first : List ℕ) (taken : List ℕ) (call : Call) (reading : ℕ) (entry : Entry) → Told base history said lacking read told
    → length first ≤ LONGEST_LINE → AsksFor first call → CameAt call.reading reading taken → IsOf call reading entry → Told base (history ++ entry ∷ []) (said ++ first ∷ []) (lacking ++ false ∷ []) (read ++ taken) (told ++ text (reply base history entry))
told-answered base history said lacking read told first taken call reading entry before short asks came of =
    record {
      go_on = λ later more wanting readings bytes talk.
          let now : List ℕ = text (reply base history entry) in
          let longer : Talk base [] (history ++ (entry ∷ later)) (said ++ first ∷ more) (lacking ++ false ∷ wanting) (read ++ (taken ++ readings)) (told ++ (now ++ bytes)) =
          before.go_on (entry ∷ later) (first ∷ more) (false ∷ wanting) (taken ++ readings) (now ++ bytes) (answered history later first more wanting taken readings bytes call reading entry short asks came of talk) in
          rw (append_assoc history (entry ∷ []) later, append_assoc said (first ∷ []) more, append_assoc lacking (false ∷ []) wanting, append_assoc read taken readings, append_assoc told now bytes) longer;
    }

pub told-unanswered : (base : Universe) (history : List Entry) (said : List (List ℕ)) (lacking : List Bool) (read told first : List ℕ) (taken : List ℕ) (call : Call) (reading : ℕ) → Told base history said lacking read told
    → length first ≤ LONGEST_LINE → AsksFor first call → CameAt call.reading reading taken → Told base history (said ++ first ∷ []) (lacking ++ true ∷ []) (read ++ taken) (told ++ memory_line)
told-unanswered base history said lacking read told first taken call reading before short asks came =
    record {
      go_on = λ later more wanting readings bytes talk.
          let now : List ℕ = memory_line in
          let longer : Talk base [] (history ++ later) (said ++ first ∷ more) (lacking ++ true ∷ wanting) (read ++ (taken ++ readings)) (told ++ (now ++ bytes)) =
          before.go_on later (first ∷ more) (true ∷ wanting) (taken ++ readings) (now ++ bytes) (unanswered history later first more wanting taken readings bytes call reading short asks came talk) in
          rw (append_assoc said (first ∷ []) more, append_assoc lacking (true ∷ []) wanting, append_assoc read taken readings, append_assoc told now bytes) longer;
    }

-- when no line is left, all has been said
pub told-all : (base : Universe) (history : List Entry) (said : List (List ℕ)) (lacking : List Bool) (read told : List ℕ) → Told base history said lacking read told → Talk base [] history said lacking read told
told-all base history said lacking read told before =
    let whole : Talk base [] (history ++ []) (said ++ []) (lacking ++ []) (read ++ []) (told ++ []) = before.go_on [] [] [] [] [] (nothing_left history) in
    rw (← append-nil history, ← append-nil said, ← append-nil lacking, ← append-nil read, ← append-nil told) whole
