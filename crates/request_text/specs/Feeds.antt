-- Where the line feeds of some bytes stand. No public clause cites this file.
use Rattle.std.specs.Prelude.{◌≡◌, ◌≢◌, ℕ, ◌<◌, List, length, slice_index}

-- no byte before this place is a line feed
abbrev pub IsClean : List ℕ → ℕ → Type 0
IsClean bytes place = (k : ℕ) → k < place → slice_index bytes k ≢ 10

-- the first line feed stands at this place
pub record IsFirstFeed (bytes : List ℕ) (place : ℕ) : Type 0 where
  pub within : place < length bytes
  pub before : IsClean bytes place
  pub here : slice_index bytes place ≡ 10
