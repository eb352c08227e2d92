-- The shared history: entries, each with the number of the pass that appended it.
use Rattle.std.specs.Prelude.{◌≡◌, ◌≢◌, ℕ, ◌+◌, ◌≤◌, ◌==◌, List, ◌++◌, map, filter, length, All}
use Rattle.base_ids.specs.declared.numbers.TheConstants.{LAST_NUMBER}
use Rattle.request_text.specs.declared.entry.Entry.{Entry}
use Rattle.tick_model.specs.History.{IsLegalFrom}
use Rattle.fronts.specs.declared.view.Sent.{Sent}
use Rattle.fronts.specs.Start.{Start}

abbrev pub sent : ℕ → Entry → Sent
sent number entry = record { pass = number; entry = entry }

abbrev pub entries_of : List Sent → List Entry
entries_of history = map (λ s. s.entry) history

-- what was found at the start belongs to no pass
abbrev pub found_by : Start → List Sent
found_by start = map (sent 0) start.found

-- the entries that a pass appended, in order
abbrev pub calls_by : ℕ → List Sent → List Entry
calls_by number history = entries_of (filter (λ s. s.pass == number) history)

-- a legal history from the start, which is no longer than it may be
pub record IsBounded (start : Start) (history : List Entry) : Type 0 where
  pub legal : IsLegalFrom start.number start.moment history
  pub room : length history ≤ start.capacity
  pub numbers : start.number + length history ≤ LAST_NUMBER

-- it begins with what was found, and after that each entry is a pass's
pub record IsHistory (start : Start) (history : List Sent) : Type 0 where
  pub bounded : IsBounded start (entries_of history)
  pub later : List Sent
  pub begins : found_by start ++ later ≡ history
  pub passes : All (λ s. s.pass ≢ 0) later
