-- The bytes of an area. Rule: docs/FORMATS.md, "Areas".
use Rattle.std.specs.Prelude.{◌≡◌, ℕ, ◌≤◌, List, [], ◌∷◌, ◌++◌, codes, drop, length, slice_index, take}
use Rattle.records.specs.Entries.{joined, u64}
use Rattle.recovery.specs.declared.head.Head.{Head}
use Rattle.sha2.specs.Sha256.{sha256}

-- the mark, the generation, and how many bytes the base has
abbrev pub sized_bytes : ℕ → ℕ → List ℕ
sized_bytes generation size = joined (codes "OGAREA01" ∷ u64 generation ∷ u64 size ∷ [])

-- the 56 bytes between the gate and the base: these, and a digest
unfoldable pub head_bytes : Head → List ℕ
head_bytes head = joined (codes "OGAREA01" ∷ u64 head.generation ∷ u64 head.size ∷ head.digest ∷ [])

-- the digest of a base and of what stands before it
unfoldable pub digest_of : ℕ → List ℕ → List ℕ
digest_of generation base = sha256 (sized_bytes generation (length base) ++ base)

-- the head of an area with this base
pub record IsHeadOf (generation : ℕ) (base : List ℕ) (head : Head) : Type 0 where
  pub generation_is : head.generation ≡ generation
  pub size_is : head.size ≡ length base
  pub digest_is : head.digest ≡ digest_of generation base

-- what stands behind the gate of an area that has no entries: its head, its base, and the closed gate of the first batch
abbrev pub behind_gate : Head → List ℕ → List ℕ
behind_gate head base = joined (head_bytes head ∷ base ∷ (0 ∷ []) ∷ [])

-- these bytes stand behind the gate of such an area
pub record IsBehind (generation : ℕ) (base bytes : List ℕ) : Type 0 where
  pub head : Head
  pub is_head : IsHeadOf generation base head
  pub is : bytes ≡ behind_gate head base

-- bytes are an area with this base, of this generation, and with no entries
pub record IsArea (generation : ℕ) (base content : List ℕ) : Type 0 where
  pub head : Head
  pub is_head : IsHeadOf generation base head
  pub is : content ≡ 1 ∷ behind_gate head base

-- the first byte is 1, and the mark stands behind it
abbrev pub IsMarked : List ℕ → Type 0
IsMarked content = (slice_index content 0 ≡ 1) × (take 8 (drop 1 content) ≡ codes "OGAREA01")

-- an area is open: there is room for its head and a gate, its own gate is 1, and the mark stands behind that
pub record IsOpen (content : List ℕ) : Type 0 where
  pub long : 58 ≤ length content
  pub marked : IsMarked content
