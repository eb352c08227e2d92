-- The readings of a clock, in whole seconds since 1970.
use Rattle.std.specs.Prelude.{◌≡◌, ℕ, zero, suc, ◌-◌, ◌^◌, min, nat_eq, List, [], ◌∷◌, ◌++◌, length, slice_get, unwrap_or, ⊤, None, Some, if◌then◌else◌}
use Rattle.std.specs.declared.option.Option.{Option}
use Rattle.ports.specs.declared.clock.TheConstants.{LATEST}

-- a list of readings that is known after a reading was known before it, and has gained it at its end
abbrev pub TellsReading : Option (List ℕ) → Option (List ℕ) → ℕ → Type 0
TellsReading old None reading = ⊤
TellsReading None (Some after) reading = ⊥
TellsReading (Some before) (Some after) reading = after ≡ before ++ reading ∷ []

-- the same of so many readings, one after another
abbrev pub TellsReadings : Option (List ℕ) → Option (List ℕ) → List ℕ → Type 0
TellsReadings old None readings = ⊤
TellsReadings None (Some after) readings = ⊥
TellsReadings (Some before) (Some after) readings = after ≡ before ++ readings

-- the reading at a place of a list: past its end its last one, 0 if it is empty, and none above the latest there is
unfoldable pub reading_at : List ℕ → ℕ → ℕ
reading_at readings place = min (unwrap_or (slice_get readings (min place (length readings - 1))) 0) LATEST

-- the first so many readings of a list, oldest first
unfoldable pub first_readings : List ℕ → ℕ → List ℕ
first_readings readings zero = []
first_readings readings (suc n) = first_readings readings n ++ reading_at readings n ∷ []

-- the readings told so far, if their count has not come to its last value
unfoldable pub readings_told : List ℕ → ℕ → Option (List ℕ)
readings_told readings count = (if nat_eq count (2 ^ 64 - 1) then None else Some (first_readings readings count))
