-- Batches of entries as bytes. Rule: docs/FORMATS.md, "Batches".
use Rattle.std.specs.Prelude.{◌≡◌, ◌≢◌, ℕ, ◌+◌, ◌<◌, ◌≤◌, List, [], ◌∷◌, ◌++◌, length, take, drop, All}
use Rattle.std.specs.List.{flat_map}
use Rattle.journal_store.specs.declared.batch.TheConstants.{BATCH}
use Rattle.records.specs.Entries.{entry_bytes}
use Rattle.records.specs.Ranges.{IsInRange}
use Rattle.request_text.specs.declared.entry.Entry.{Entry}

-- so many entries as a batch may have, each of which bytes can spell
pub record IsBatch (entries : List Entry) : Type 0 where
  pub some : 1 ≤ length entries
  pub most : length entries ≤ BATCH
  pub spelled : All IsInRange entries

-- what stands behind a batch's gate: how many entries it has, and these
abbrev pub batch_bytes : List Entry → List ℕ
batch_bytes entries = length entries ∷ flat_map entry_bytes entries

-- a batch with its gate, which is open
abbrev pub open_batch : List Entry → List ℕ
open_batch entries = 1 ∷ batch_bytes entries

-- batches with open gates, one after another
abbrev pub open_batches : List (List Entry) → List ℕ
open_batches batches = flat_map open_batch batches

-- the entries of batches, in order
abbrev pub entries_of : List (List Entry) → List Entry
entries_of batches = flat_map (λ batch. batch) batches

-- no open gate stands first; a gate past the end is closed
abbrev pub IsShut : List ℕ → Type 0
IsShut [] = Unit {0}
IsShut (gate ∷ rest) = gate ≢ 1

-- From a place of a content on, the open batches up to the first closed gate spell these entries, and that gate's place is
-- `end`.
pub record Batches (content : List ℕ) (from : ℕ) (entries : List Entry) (end : ℕ) : Type 0 where
  pub batches : List (List Entry)
  pub each : All IsBatch batches
  pub entries_are : entries ≡ entries_of batches
  pub rest : List ℕ
  pub bytes_are : drop from content ≡ open_batches batches ++ rest
  pub shut : IsShut rest
  pub end_is : end ≡ from + length (open_batches batches)

-- A content begins with a front. Behind it the batches spell the first of these entries, at least so many, and the closed
-- gate lies within the content.
pub record HoldsFirst (front : List ℕ) (drawn : List Entry) (least : ℕ) (content : List ℕ) : Type 0 where
  pub begins : take (length front) content ≡ front
  pub count : ℕ
  pub no_less : least ≤ count
  pub no_more : count ≤ length drawn
  pub end : ℕ
  pub batches : Batches content (length front) (take count drawn) end
  pub fit : end < length content
