-- How a disk stands to its journal.
use Rattle.std.specs.Prelude.{◌≡◌, ℕ, List, ◌++◌, length, All}
use Rattle.disk_port.specs.Moments.{EachNow, EachSince}
use Rattle.disk_port.specs.Story.{Story, Told}
use Rattle.journal_store.specs.Batches.{IsBatch, open_batches, entries_of, HoldsFirst}
use Rattle.journal_store.specs.Gates.{AtGate, Begins, IsFit}
use Rattle.journal_store.specs.Ledger.{settled}
use Rattle.journal_store.specs.declared.journal.Journal.{Journal}
use Rattle.request_text.specs.declared.entry.Entry.{Entry}

module _ {D : Type 0} (story : Story D) where
  -- The disk holds a front, which is what stood before the first closed gate at the start. Behind it stand batches of the
  -- entries that are durable since, and then what the journal keeps of the gate. A crash leaves all that.
  pub record Stands (front : List ℕ) (drawn : List Entry) (journal : Journal) (disk : D) : Type 0 where
    pub done : List (List Entry)
    pub each : All IsBatch done
    pub parts : entries_of done ++ journal.pending.items ≡ drawn
    pub end_is : length (front ++ open_batches done) ≡ journal.end
    pub images : EachNow story disk (AtGate journal.gate journal.pending.items (front ++ open_batches done))

  -- it does so with some front and some entries
  pub record CanFlush (journal : Journal) (disk : D) : Type 0 where
    pub front : List ℕ
    pub drawn : List Entry
    pub stands : Stands front drawn journal disk

  -- What calls on a disk lead to that stood to its journal so: it still does, and each image at a moment since then begins
  -- with the front. If there was a gate at first, each of these images holds the first entries that were drawn, at least
  -- those that were durable then, and each image now at least those that are durable now.
  pub record Leads (front : List ℕ) (drawn : List Entry) (old new : Journal) (before after : D) : Type 0 where
    pub stands : Stands front drawn new after
    pub kept : EachSince story before after (Begins front)
    pub fit : IsFit old.gate → IsFit new.gate
    pub since : IsFit old.gate → EachSince story before after (HoldsFirst front drawn (settled drawn old))
    pub now : IsFit new.gate → EachNow story after (HoldsFirst front drawn (settled drawn new))

  -- so it is whatever front the disk holds and whatever was drawn, if it tells
  abbrev pub Carries : Journal → Journal → D → D → Type 0
  Carries old new before after = Told story before after ((front : List ℕ) (drawn : List Entry) → Stands front drawn old before → Leads front drawn old new before after)
