-- Which histories there can be. Rule: docs/RULES.md, "Time and order".
use Rattle.std.specs.Prelude.{◌≡◌, ℕ, ◌+◌, max, List, [], ◌∷◌}
use Rattle.request_text.specs.declared.entry.Entry.{Entry}
use Rattle.tick_model.specs.Universe.{Universe}

-- An entry may follow the last number and moment: it has the next number, and its moment is the greater of
-- its reading and the moment before.
pub record MayFollow (number moment : ℕ) (entry : Entry) : Type 0 where
  pub next : entry.number ≡ number + 1
  pub latest : entry.moment ≡ max entry.reading moment

-- each entry may follow the one before it
abbrev pub IsLegalFrom : ℕ → ℕ → List Entry → Type 0
IsLegalFrom number moment [] = Unit {0}
IsLegalFrom number moment (entry ∷ later) = MayFollow number moment entry × IsLegalFrom entry.number entry.moment later

-- a legal history from a base: the base's number and moment stand before the first entry
abbrev pub IsLegal : Universe → List Entry → Type 0
IsLegal base history = IsLegalFrom base.state.number base.moment history
