-- What `found` does: it founds a universe on two disks that hold none. An area is what docs/FORMATS.md calls so. Statuses:
-- docs/PROTOCOL.md, "Statuses".
use Rattle.std.specs.Prelude.{◌≡◌, ℕ, ◌⊎◌, List, [], ◌∷◌, codes, length, take, Option}
use Rattle.std.specs.Fmt.{decimal}
use Rattle.std.specs.Io.KnownBytes.{Appends}
use Rattle.base_bytes.specs.Spelling.{base_spelling}
use Rattle.base_bytes.specs.declared.base.Base.{Base}
use Rattle.disk_port.specs.Moments.{EachNow, EachSince}
use Rattle.disk_port.specs.Story.{Story, Told}
use Rattle.recovery.specs.Areas.{IsArea, IsOpen}
use Rattle.recovery.specs.Laying.{IsRebasing}
use Rattle.reply_text.specs.Words.{line}
use Rattle.request_text.specs.LineReading.{Known}
use Rattle.command.specs.FoundingText.{IsFoundedBy, IsReadPart}
use Rattle.command.specs.Trial.{NamedBad, NamedBroken}
use Rattle.command.specs.declared.status.TheConstants.{DONE, SOURCE_FAULT, SINK_FAULT, DISK_FAULT, NO_MEMORY, TOO_LONG, ALREADY_FOUNDED, NOT_FOUNDED}

-- the words of the command
abbrev pub IsFound : List (List ℕ) → Type 0
IsFound words = words ≡ codes "found" ∷ []

-- the line `founded PLAYERS PLANETS`
abbrev pub counts_line : ℕ → ℕ → List ℕ
counts_line players planets = line (codes "founded" ∷ decimal players ∷ decimal planets ∷ [])

-- that line for the universe of a base
abbrev pub founded_line : Base → List ℕ
founded_line base = counts_line (length base.accounts.items) (length base.planets.items)

module _ {D : Type 0} (story : Story D) where
  -- by what reads give, one of two disks holds an open area
  abbrev pub HoldOpen : D → D → Type 0
  HoldOpen left right = IsOpen (story.seen left) ⊎ IsOpen (story.seen right)

  -- a disk was only looked at: each image since is one from before
  abbrev pub IsAsBefore : D → D → Type 0
  IsAsBefore old new = Told story old new (EachSince story old new (story.leaves old))

  -- The source was read to its end, its text founds this base, and the base may have become the first area of a disk: each image
  -- since is one from before, is not open, or is that area.
  pub record MayHold (base : Base) (old new : D) (text_before text_after : Option (List ℕ)) : Type 0 where
    pub read : Known text_before text_after (λ text more. (more ≡ []) × IsFoundedBy text base)
    pub since : Told story old new (EachSince story old new (IsRebasing (story.leaves old) 1 (base_spelling base)))

  -- the same, and a crash now leaves nothing but that area
  pub record Holds (base : Base) (old new : D) (text_before text_after : Option (List ℕ)) : Type 0 where
    pub may : MayHold base old new text_before text_after
    pub now : Told story old new (EachNow story new (IsArea 1 (base_spelling base)))

  -- What `found` has read, written and done to the left disk with each status, by what the source had left before and after, and
  -- what was written.
  pub record Found (status : ℕ) (old new : D) (text_before text_after written_before written_after : Option (List ℕ)) : Type 0 where
    pub done : status ≡ DONE → (base : Base) × Holds base old new text_before text_after × Appends written_before written_after (founded_line base)
    pub broken : status ≡ SINK_FAULT
        → ((base : Base) × Holds base old new text_before text_after × (count : ℕ) × Appends written_before written_after (take count (founded_line base)))
        ⊎ (IsAsBefore old new × Known text_before text_after (λ text more. NamedBroken text written_before written_after))
    pub torn : status ≡ DISK_FAULT → IsAsBefore old new ⊎ ((base : Base) × MayHold base old new text_before text_after)
    pub partly : (status ≡ SOURCE_FAULT) ⊎ (status ≡ TOO_LONG) → Known text_before text_after IsReadPart
    pub not_founded : status ≡ NOT_FOUNDED → Known text_before text_after (λ text more. NamedBad text written_before written_after)
    pub as_before : (status ≡ SOURCE_FAULT) ⊎ (status ≡ NO_MEMORY) ⊎ (status ≡ TOO_LONG) ⊎ (status ≡ ALREADY_FOUNDED) ⊎ (status ≡ NOT_FOUNDED)
        → IsAsBefore old new
