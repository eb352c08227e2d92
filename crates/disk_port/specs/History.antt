-- What follows from the changes of a disk in memory, the newest one first, and from its content before the first one.
use Rattle.std.specs.Prelude.{◌≡◌, ◌⊎◌, ℕ, ◌-◌, ◌≤◌, min, Bool, true, false, List, [], ◌∷◌, length, take, drop, replicate, reverse}
use Rattle.std.specs.List.{list_all}
use Rattle.disk_port.specs.Contents.{written, Torn, Shortened}
use Rattle.disk_port.specs.declared.change.Change.{Change}
use Rattle.disk_port.specs.declared.change.Change.TheVariants.{Wrote, WroteNothing, Cut, CutNothing, Synced}

-- what a read gives
abbrev pub read_of : List ℕ → List Change → List ℕ
read_of first [] = first
read_of first (Wrote at bytes ∷ older) = written (read_of first older) at bytes.items
read_of first (WroteNothing at count ∷ older) = read_of first older
read_of first (Cut len ∷ older) = take len (read_of first older)
read_of first (CutNothing len ∷ older) = read_of first older
read_of first (Synced ∷ older) = read_of first older

-- which images a crash may leave
abbrev pub IsLeft : List ℕ → List Change → List ℕ → Type 0
IsLeft first [] c = c ≡ first
IsLeft first (Wrote at bytes ∷ older) c = (d : List ℕ) × IsLeft first older d × Torn at (length bytes.items) d c
IsLeft first (WroteNothing at count ∷ older) c = (d : List ℕ) × IsLeft first older d × Torn at count d c
IsLeft first (Cut len ∷ older) c = (d : List ℕ) × IsLeft first older d × Shortened len d c
IsLeft first (CutNothing len ∷ older) c = (d : List ℕ) × IsLeft first older d × Shortened len d c
IsLeft first (Synced ∷ older) c = c ≡ read_of first older

-- which images a crash since this moment might have left; a moment is how many changes there were
abbrev pub WasLeft : List ℕ → List Change → ℕ → List ℕ → Type 0
WasLeft first [] t c = IsLeft first [] c
WasLeft first (change ∷ older) t c = IsLeft first (change ∷ older) c ⊎ ((t ≤ length older) × WasLeft first older t c)

-- what a crash leaves of which nothing since the last sync is left
abbrev pub kept_of : List ℕ → List Change → List ℕ
kept_of first [] = first
kept_of first (Wrote at bytes ∷ older) = kept_of first older
kept_of first (WroteNothing at count ∷ older) = kept_of first older
kept_of first (Cut len ∷ older) = kept_of first older
kept_of first (CutNothing len ∷ older) = kept_of first older
kept_of first (Synced ∷ older) = read_of first older

-- the content with its bytes from this place on, as many as there are of so many, set to this byte
abbrev pub filled : List ℕ → ℕ → ℕ → ℕ → List ℕ
filled content at count byte = written content at (replicate (min count (length content - at)) byte)

-- a content after a change that wrote nothing but this byte, also if the write failed
abbrev pub marked_by : ℕ → Change → List ℕ → List ℕ
marked_by byte (Wrote at bytes) content = written content at (replicate (length bytes.items) byte)
marked_by byte (WroteNothing at count) content = filled content at count byte
marked_by byte (Cut len) content = take len content
marked_by byte (CutNothing len) content = content
marked_by byte Synced content = content

-- what a read gives, but with this byte for each byte that was written since the last sync, also by a write that failed
abbrev pub marked_of : ℕ → List ℕ → List Change → List ℕ
marked_of byte first [] = first
marked_of byte first (Wrote at bytes ∷ older) = marked_by byte (Wrote at bytes) (marked_of byte first older)
marked_of byte first (WroteNothing at count ∷ older) = marked_by byte (WroteNothing at count) (marked_of byte first older)
marked_of byte first (Cut len ∷ older) = marked_by byte (Cut len) (marked_of byte first older)
marked_of byte first (CutNothing len ∷ older) = marked_of byte first older
marked_of byte first (Synced ∷ older) = read_of first older

-- the same of a content and what came after it, the oldest change first
abbrev pub marked_after : ℕ → List ℕ → List Change → List ℕ
marked_after byte content [] = content
marked_after byte content (change ∷ later) = marked_after byte (marked_by byte change content) later

-- whether a change is no sync
abbrev pub is_unsynced : Change → Bool
is_unsynced Synced = false
is_unsynced _ = true

-- What a disk in memory keeps beside its changes, which are given here the oldest one first: what a read gives, what it gave
-- at the last sync, and how many changes there were with that sync.
pub record Fits (first : List ℕ) (changes : List Change) (bytes kept : List ℕ) (synced : ℕ) : Type 0 where
  pub read : bytes ≡ read_of first (reverse changes)
  pub last : kept ≡ kept_of first (reverse changes)
  pub within : synced ≤ length changes
  pub unmarked : (byte : ℕ) → marked_of byte first (reverse (take synced changes)) ≡ kept
  pub unsynced : list_all is_unsynced (drop synced changes) ≡ true
