-- What a crash may leave while an area is laid.
use Rattle.std.specs.Prelude.{◌≡◌, ◌≢◌, ℕ, Bool, true, false, List, [], ◌∷◌}
use Rattle.recovery.specs.Areas.{IsArea, IsOpen}

-- bytes that don't begin with an open gate
pub record HasGate (c : List ℕ) : Type 0 where
  pub gate : ℕ
  pub closed : gate ≢ 1
  pub rest : List ℕ
  pub is : c ≡ gate ∷ rest

-- bytes that do, or none
pub data IsUnclosed (c : List ℕ) : Type 0 where
  empty : c ≡ [] → IsUnclosed c
  begins : (rest : List ℕ) → c ≡ 1 ∷ rest → IsUnclosed c

-- whether the gate is closed
abbrev pub IsClosedAs : Bool → List ℕ → Type 0
IsClosedAs true c = HasGate c
IsClosedAs false c = IsUnclosed c

-- a closed gate, and these bytes behind it
pub record HasBehind (bytes c : List ℕ) : Type 0 where
  pub gate : ℕ
  pub closed : gate ≢ 1
  pub is : c ≡ gate ∷ bytes

-- an image from before, or one that isn't open
pub data IsClosing (before : List ℕ → Type 0) (c : List ℕ) : Type 0 where
  stood : before c → IsClosing before c
  shut : (IsOpen c → ⊥) → IsClosing before c

-- an image that isn't open, or one that is all of an area
pub data IsOpening (area c : List ℕ) : Type 0 where
  unopened : (IsOpen c → ⊥) → IsOpening area c
  opened : c ≡ area → IsOpening area c

-- an image from before, one that isn't open, or an area with a base, of a generation and with no entries
pub data IsRebasing (before : List ℕ → Type 0) (generation : ℕ) (base c : List ℕ) : Type 0 where
  as_before : before c → IsRebasing before generation base c
  not_open : (IsOpen c → ⊥) → IsRebasing before generation base c
  rebased : IsArea generation base c → IsRebasing before generation base c

-- an image from before, one that isn't open, or all of an area
pub data IsLaying (before : List ℕ → Type 0) (area c : List ℕ) : Type 0 where
  earlier : before c → IsLaying before area c
  closed : (IsOpen c → ⊥) → IsLaying before area c
  laid : c ≡ area → IsLaying before area c
