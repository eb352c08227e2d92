-- What is laid opens, and in one way.
use Rattle.std.specs.Prelude.{◌≡◌, ◌↔◌, ℕ, ◌+◌, ◌<◌, ◌^◌, false, IsTrue, List, length, Result, Ok, Err, ⊤}
use Rattle.base_bytes.specs.Rules.{IsBase}
use Rattle.base_bytes.specs.Spelling.{base_spelling}
use Rattle.base_bytes.specs.declared.base.Base.{Base}
use Rattle.recovery.specs.Areas.{IsArea, IsOpen}
use Rattle.recovery.specs.Reopening.{IsFoundIn, Opens}
use Rattle.recovery.specs.declared.outcome.Found.{Found}
use Rattle.recovery.specs.declared.outcome.OpenFault.{OpenFault}
use Rattle.recovery.specs.declared.outcome.OpenFault.TheVariants.{NotFounded, Damaged, BadBase, BadEntry, DeviceFault, Memory}

-- what is found of an area of this generation that has this base, and no entries
pub record IsWhole (generation : ℕ) (base : Base) (found : Found) : Type 0 where
  pub generation_is : found.generation ≡ generation
  pub base_is : found.base ≡ base
  pub end_is : found.end ≡ 57 + length (base_spelling base)
  pub short_is : found.short ≡ false

-- an area that was laid for a base is open, and just this base is found in it
abbrev pub AreasReopen : Type 0
AreasReopen = (generation : ℕ) (base : Base) (content : List ℕ) → generation < 2 ^ 64 → IsBase base → base.seed < 2 ^ 64
    → length (base_spelling base) < 2 ^ 64 → IsArea generation (base_spelling base) content
    → IsOpen content × ((found : Found) → IsWhole generation base found → IsFoundIn content found)

-- the same was found, with bases that the same bytes spell
pub record AreSameFound (first second : Found) : Type 0 where
  pub right : second.right ≡ first.right
  pub generation : second.generation ≡ first.generation
  pub base : base_spelling second.base ≡ base_spelling first.base
  pub end : second.end ≡ first.end
  pub short : IsTrue second.short ↔ IsTrue first.short

-- Two results say the same. No more is said if one of them is a fault of a disk or want of memory.
abbrev pub SayTheSame : Result Found OpenFault → Result Found OpenFault → Type 0
SayTheSame (Err DeviceFault) _ = ⊤
SayTheSame (Err Memory) _ = ⊤
SayTheSame _ (Err DeviceFault) = ⊤
SayTheSame _ (Err Memory) = ⊤
SayTheSame (Ok first) (Ok second) = AreSameFound first second
SayTheSame (Err NotFounded) (Err NotFounded) = ⊤
SayTheSame (Err (Damaged kept computed)) (Err (Damaged kept_too computed_too)) = (kept_too ≡ kept) × (computed_too ≡ computed)
SayTheSame (Err BadBase) (Err BadBase) = ⊤
SayTheSame (Err (BadEntry at)) (Err (BadEntry at_too)) = at_too ≡ at
SayTheSame _ _ = ⊥

-- so each result comes exactly where two areas open so
abbrev pub OpensOnce : Type 0
OpensOnce = (left right : List ℕ) (first second : Result Found OpenFault) → Opens left right first → Opens left right second → SayTheSame first second
