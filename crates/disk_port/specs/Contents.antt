-- What a call does to the content of a disk, and what of it a crash may leave until the next sync. A content is a list of
-- bytes, and a place is the number of a byte, counted from 0.
use Rattle.std.specs.Prelude.{◌≡◌, ℕ, ◌+◌, ◌<◌, ◌≤◌, min, max, List, ◌++◌, length, take, drop, slice_index}

-- the content with these bytes from this place on
abbrev pub written : List ℕ → ℕ → List ℕ → List ℕ
written old at bytes = take at old ++ bytes ++ drop (at + length bytes) old

-- What a crash may leave of a write of n bytes: any bytes in the range and past the old end, the others as they were, and
-- an end between the old one and that of the range.
pub record Torn (at n : ℕ) (old new : List ℕ) : Type 0 where
  pub no_shorter : length old ≤ length new
  pub no_longer : length new ≤ max (length old) (at + n)
  pub below : (i : ℕ) → i < length old → i < at → slice_index new i ≡ slice_index old i
  pub above : (i : ℕ) → i < length old → at + n ≤ i → slice_index new i ≡ slice_index old i

-- What a crash may leave of a cut to a length: an end between the cut and the old end, any bytes past the cut, the others
-- as they were.
pub record Shortened (len : ℕ) (old new : List ℕ) : Type 0 where
  pub no_shorter : min len (length old) ≤ length new
  pub no_longer : length new ≤ length old
  pub below : (i : ℕ) → i < length old → i < len → slice_index new i ≡ slice_index old i

-- how many bytes of a content a read from this place on gives to room for n: as many as fit and there are
abbrev pub given : List ℕ → ℕ → ℕ → ℕ
given content at n = min n (length (drop at content))
