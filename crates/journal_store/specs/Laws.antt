-- How a disk goes on to stand to its journal, and what its images go on to hold.
use Rattle.std.specs.Prelude.{◌≡◌, ℕ, ◌+◌, ◌<◌, ◌≤◌, List, [], ◌∷◌, ◌++◌, length, take}
use Rattle.disk_port.specs.Moments.{EachNow, EachSince}
use Rattle.disk_port.specs.Story.{Story}
use Rattle.journal_store.specs.Batches.{Batches, HoldsFirst}
use Rattle.journal_store.specs.Gates.{AtGate, IsFit, Rests}
use Rattle.journal_store.specs.Ledger.{IsNew, SameEntries, SamePlace, Appends, settled}
use Rattle.journal_store.specs.Standing.{Stands}
use Rattle.journal_store.specs.declared.journal.Journal.{Journal}
use Rattle.journal_store.specs.declared.start.Start.{Start}
use Rattle.request_text.specs.declared.entry.Entry.{Entry}

-- What batches that were found and batches that were written since make together. The found ones stand from a place on, up to
-- `end`, and a journal goes on from there.
pub record BatchesJoin : Type 0 where
  -- behind what was found stands the closed gate, if it isn't missing
  pub found : (content : List ℕ) (from : ℕ) (entries : List Entry) (end : ℕ) → Batches content from entries end → end < length content → Rests (take end content) content
  -- a content that goes on from there holds what was found, and then what it holds of the entries that were drawn
  pub joined : (seen content : List ℕ) (from end : ℕ) (entries drawn : List Entry) (least : ℕ) → Batches seen from entries end → end ≤ length seen → HoldsFirst (take end seen) drawn least content
      → HoldsFirst (take from seen) (entries ++ drawn) (length entries + least) content

module _ {D : Type 0} (story : Story D) where
  pub record JournalsStand : Type 0 where
    -- a disk of which a crash leaves the front and its closed gate stands to a new journal
    pub started : (start : Start) (front : List ℕ) (journal : Journal) (disk : D) → IsNew start journal → length front ≡ start.end → EachNow story disk (AtGate journal.gate [] front) → Stands story front [] journal disk
    -- a reserve leaves the disk alone
    pub reserved : (front : List ℕ) (drawn : List Entry) (old new : Journal) (disk : D) → Stands story front drawn old disk → SamePlace old new → SameEntries old new → Stands story front drawn new disk
    -- and so does a draw
    pub appended : (front : List ℕ) (drawn : List Entry) (entry : Entry) (old new : Journal) (disk : D) → Stands story front drawn old disk → Appends old entry new → Stands story front (drawn ++ entry ∷ []) new disk
    -- each image holds what is durable
    pub holds : (front : List ℕ) (drawn : List Entry) (journal : Journal) (disk : D) → Stands story front drawn journal disk → IsFit journal.gate → EachNow story disk (HoldsFirst front drawn (settled drawn journal))
    -- what held over one run and over the next, with more entries, holds over both
    pub goes_on : (front : List ℕ) (drawn more : List Entry) (least less : ℕ) (old mid new : D) → less ≤ least → EachSince story old mid (HoldsFirst front drawn less) → EachSince story mid new (HoldsFirst front (drawn ++ more) least)
        → EachSince story old new (HoldsFirst front (drawn ++ more) less)
