-- What may stand behind a text that ends where a batch's gate has its place.
use Rattle.std.specs.Prelude.{◌≡◌, ◌≢◌, ℕ, min, List, [], ◌∷◌, ◌++◌, take}
use Rattle.journal_store.specs.Batches.{batch_bytes}
use Rattle.journal_store.specs.declared.batch.TheConstants.{BATCH}
use Rattle.journal_store.specs.declared.gate.Gate.{Gate}
use Rattle.journal_store.specs.declared.gate.Gate.TheVariants.{Missing, Closed, Staged}
use Rattle.request_text.specs.declared.entry.Entry.{Entry}

-- anything
pub record Begins (text content : List ℕ) : Type 0 where
  pub rest : List ℕ
  pub is : content ≡ text ++ rest

-- a closed gate, and anything behind it
pub record Rests (text content : List ℕ) : Type 0 where
  pub gate : ℕ
  pub shut : gate ≢ 1
  pub rest : List ℕ
  pub is : content ≡ text ++ gate ∷ rest

-- a gate, which may be open, and these bytes behind it
pub record Stages (text bytes content : List ℕ) : Type 0 where
  pub gate : ℕ
  pub rest : List ℕ
  pub is : content ≡ text ++ gate ∷ (bytes ++ rest)

-- an open gate, and these bytes behind it
pub record Opens (text bytes content : List ℕ) : Type 0 where
  pub rest : List ℕ
  pub is : content ≡ text ++ 1 ∷ (bytes ++ rest)

-- what a flush writes behind a gate: a batch, and the gate of the next one, which is closed
abbrev pub behind : List Entry → List ℕ
behind entries = batch_bytes entries ++ 0 ∷ []

-- what stands there, by what the journal keeps of it
abbrev pub AtGate : Gate → List Entry → List ℕ → List ℕ → Type 0
AtGate Missing pending text content = Begins text content
AtGate Closed pending text content = Rests text content
AtGate (Staged count) pending text content = Stages text (behind (take count pending)) content

-- there is a gate
abbrev pub IsFit : Gate → Type 0
IsFit Missing = ⊥
IsFit Closed = Unit {0}
IsFit (Staged count) = Unit {0}

-- how many entries the next batch has, if so many are pending
abbrev pub batch_size : Gate → ℕ → ℕ
batch_size Missing pending = min pending BATCH
batch_size Closed pending = min pending BATCH
batch_size (Staged count) pending = count

-- no batch is staged
abbrev pub IsUnstaged : Gate → Type 0
IsUnstaged Missing = Unit {0}
IsUnstaged Closed = Unit {0}
IsUnstaged (Staged count) = ⊥

-- how many bytes of the gate stand already
abbrev pub standing : Gate → ℕ
standing Missing = 0
standing Closed = 1
standing (Staged count) = 1
