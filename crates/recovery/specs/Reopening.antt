-- What two areas hold, and how they open. A content is what a read of an area gives. Rule: docs/FORMATS.md, "Areas".
use Rattle.std.specs.Prelude.{◌≡◌, ◌≢◌, ◌↔◌, ℕ, ◌+◌, ◌<◌, ◌≤◌, Bool, true, false, IsTrue, List, ◌++◌, length, take, drop, slice_index, Option, MatchOption, Result, Ok, Err, ⊤}
use Rattle.std.specs.Int.{from_be_bytes, w64}
use Rattle.base_bytes.specs.Rules.{Spells}
use Rattle.base_bytes.specs.declared.base.Base.{Base}
use Rattle.recovery.specs.Areas.{IsOpen, sized_bytes}
use Rattle.recovery.specs.declared.choosing.Choice.{Choice}
use Rattle.recovery.specs.declared.outcome.Found.{Found}
use Rattle.recovery.specs.declared.outcome.OpenFault.{OpenFault}
use Rattle.recovery.specs.declared.outcome.OpenFault.TheVariants.{NotFounded, Damaged, BadBase, BadEntry, DeviceFault, Memory}
use Rattle.recovery.specs.declared.reading.FirstGate.{FirstGate}
use Rattle.recovery.specs.declared.reading.FirstGate.TheVariants.{Missing, Closed, Open}
use Rattle.recovery.specs.declared.head.Head.{Head}
use Rattle.sha2.specs.Sha256.{sha256}

-- What a content says.

-- the generation
unfoldable pub generation_of : List ℕ → ℕ
generation_of content = from_be_bytes w64 (take 8 (drop 9 content))

-- how many bytes the base has
unfoldable pub size_of : List ℕ → ℕ
size_of content = from_be_bytes w64 (take 8 (drop 17 content))

-- the digest that is kept
unfoldable pub kept_digest : List ℕ → List ℕ
kept_digest content = take 32 (drop 25 content)

-- the bytes of the base, as many as there are
unfoldable pub base_there : List ℕ → List ℕ
base_there content = take (size_of content) (drop 57 content)

-- the digest of bytes 1 to 24 followed by these
unfoldable pub computed_digest : List ℕ → List ℕ
computed_digest content = sha256 (take 24 (drop 1 content) ++ base_there content)

-- the place of the first batch
unfoldable pub first_batch : List ℕ → ℕ
first_batch content = 57 + size_of content

-- the gate there is open; a gate past the end isn't
abbrev pub HasBatch : List ℕ → Type 0
HasBatch content = slice_index content (first_batch content) ≡ 1

-- the whole base is there, and these bytes spell it
pub record HoldsBase (content : List ℕ) (base : Base) : Type 0 where
  pub whole : first_batch content ≤ length content
  pub spelt : Spells (base_there content) base

-- Which of two is chosen.

-- The open one with the greater generation, and the left one at a tie. True stands for the right one.
abbrev pub IsChosen : List ℕ → List ℕ → Bool → Type 0
IsChosen left right false = IsOpen left × (IsOpen right → generation_of right ≤ generation_of left)
IsChosen left right true = IsOpen right × (IsOpen left → generation_of left < generation_of right)

abbrev pub side : Bool → List ℕ → List ℕ → List ℕ
side false left right = left
side true left right = right

-- the one that is chosen has P
abbrev pub ChosenHas : List ℕ → List ℕ → (List ℕ → Type 0) → Type 0
ChosenHas left right P = (is_right : Bool) × IsChosen left right is_right × P (side is_right left right)

-- neither is open
abbrev pub IsUnfounded : List ℕ → List ℕ → Type 0
IsUnfounded left right = (IsOpen left → ⊥) × (IsOpen right → ⊥)

-- How the chosen one opens.

-- its digests agree, it holds the base, and no batch follows
pub record IsFoundIn (content : List ℕ) (found : Found) : Type 0 where
  pub generation_is : found.generation ≡ generation_of content
  pub agrees : computed_digest content ≡ kept_digest content
  pub holds : HoldsBase content found.base
  pub end_is : found.end ≡ first_batch content
  pub no_batch : HasBatch content → ⊥
  pub short_is : IsTrue found.short ↔ (length content ≤ first_batch content)

abbrev pub IsFound : List ℕ → List ℕ → Found → Type 0
IsFound left right found = IsChosen left right found.right × IsFoundIn (side found.right left right) found

-- its digests differ
pub record IsDamaged (kept computed content : List ℕ) : Type 0 where
  pub kept_is : kept ≡ kept_digest content
  pub computed_is : computed ≡ computed_digest content
  pub apart : computed ≢ kept

-- they agree, and it holds no base
pub record HasBadBase (content : List ℕ) : Type 0 where
  pub agrees : computed_digest content ≡ kept_digest content
  pub no_base : (base : Base) → HoldsBase content base → ⊥

-- they agree, it holds a base, and a batch follows at this place
pub record HasBadEntry (at : ℕ) (content : List ℕ) : Type 0 where
  pub agrees : computed_digest content ≡ kept_digest content
  pub base : Base
  pub holds : HoldsBase content base
  pub at_is : at ≡ first_batch content
  pub batch : HasBatch content

-- how two areas open; no more is said if a disk fails or memory runs out
abbrev pub Opens : List ℕ → List ℕ → Result Found OpenFault → Type 0
Opens left right (Ok found) = IsFound left right found
Opens left right (Err NotFounded) = IsUnfounded left right
Opens left right (Err (Damaged kept computed)) = ChosenHas left right (IsDamaged kept computed)
Opens left right (Err BadBase) = ChosenHas left right HasBadBase
Opens left right (Err (BadEntry at)) = ChosenHas left right (HasBadEntry at)
Opens left right (Err DeviceFault) = ⊤
Opens left right (Err Memory) = ⊤

-- The steps.

-- a fault that says nothing of the areas: a disk failed, or memory ran out
abbrev pub IsOutside : OpenFault → Type 0
IsOutside DeviceFault = ⊤
IsOutside Memory = ⊤
IsOutside _ = ⊥

-- the area is open, and this is its head
pub record IsHeadIn (content : List ℕ) (head : Head) : Type 0 where
  pub opens : IsOpen content
  pub generation_is : head.generation ≡ generation_of content
  pub size_is : head.size ≡ size_of content
  pub digest_is : head.digest ≡ kept_digest content
  pub sized_is : sized_bytes head.generation head.size ≡ take 24 (drop 1 content)

-- what is read of the first bytes: the head of an open area, and else nothing
abbrev pub Shows : List ℕ → Option Head → Type 0
Shows content head = MatchOption head (IsOpen content → ⊥) (IsHeadIn content)

-- which of two is chosen, and its head
abbrev pub Chooses : List ℕ → List ℕ → Option Choice → Type 0
Chooses left right choice = MatchOption choice (IsUnfounded left right)
    (λ choice. IsChosen left right choice.right × IsHeadIn (side choice.right left right) choice.head)

-- an open area with this head holds this base, and its digests agree
pub record IsIntact (content : List ℕ) (head : Head) (base : Base) : Type 0 where
  pub is_head : IsHeadIn content head
  pub agrees : computed_digest content ≡ kept_digest content
  pub holds : HoldsBase content base

-- what comes of the bytes of the base
abbrev pub Restores : List ℕ → Head → Result Base OpenFault → Type 0
Restores content head (Ok base) = IsIntact content head base
Restores content head (Err (Damaged kept computed)) = IsDamaged kept computed content
Restores content head (Err BadBase) = HasBadBase content
Restores content head (Err Memory) = ⊤
Restores content head (Err _) = ⊥

-- how the gate at a place stands
abbrev pub IsGateAt : List ℕ → ℕ → FirstGate → Type 0
IsGateAt content at Missing = length content ≤ at
IsGateAt content at Closed = (at < length content) × (slice_index content at ≢ 1)
IsGateAt content at Open = slice_index content at ≡ 1

-- how an open area opens
abbrev pub OpensIn : List ℕ → Bool → Result Found OpenFault → Type 0
OpensIn content is_right (Ok found) = (found.right ≡ is_right) × IsFoundIn content found
OpensIn content is_right (Err (Damaged kept computed)) = IsDamaged kept computed content
OpensIn content is_right (Err BadBase) = HasBadBase content
OpensIn content is_right (Err (BadEntry at)) = HasBadEntry at content
OpensIn content is_right (Err NotFounded) = ⊥
OpensIn content is_right (Err DeviceFault) = ⊤
OpensIn content is_right (Err Memory) = ⊤
