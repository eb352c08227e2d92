-- A journal of which a batch is durable.
use Rattle.std.proofs.Common.{◌≡◌, ℕ, ◌+◌, ◌≤◌, List, length, drop, ◌∙◌, ap, arith, length-drop}
use Rattle.std.proofs.lemmas.List.{drop-drop}
use Rattle.journal_store.specs.Ledger.{Keeps, Settles, settled}
use Rattle.journal_store.specs.declared.journal.Journal.{Journal}
use Rattle.journal_store.specs.declared.start.Start.{Start}
use Rattle.request_text.specs.declared.entry.Entry.{Entry}

-- so many more are durable
settled-on : (drawn : List Entry) (count : ℕ) (old new : Journal) → Settles count old new → length old.pending.items ≤ length drawn → settled drawn new ≡ settled drawn old + count
settled-on drawn count old new settles within = omega (arith, ap length settles.pending, length-drop count old.pending.items, settles.within, within)

pub keeps_settled : (start : Start) (drawn : List Entry) (count : ℕ) (old new : Journal) → Settles count old new → Keeps start drawn old → Keeps start drawn new
keeps_settled start drawn count old new settles keeps =
    let within : length old.pending.items ≤ length drawn = omega (arith, ap length keeps.pending, length-drop (settled drawn old) drawn) in
    let more : settled drawn new ≡ settled drawn old + count = settled-on drawn count old new settles within in
    record {
      legal = keeps.legal;
      number = settles.number ∙ keeps.number;
      moment = settles.moment ∙ keeps.moment;
      capacity = settles.capacity ∙ keeps.capacity;
      durable = omega (arith, settles.durable, keeps.durable, more);
      pending = settles.pending ∙ ap (drop count) keeps.pending ∙ drop-drop count (settled drawn old) drawn ∙ ap (λ (n : ℕ). drop n drawn) (omega (arith, more));
    }
