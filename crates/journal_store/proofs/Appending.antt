-- A journal with one entry more.
use Rattle.std.proofs.Common.{◌≡◌, ℕ, ◌+◌, ◌<◌, ◌≤◌, List, [], ◌∷◌, ◌++◌, length, drop, sym, ◌∙◌, ap, subst, arith, length-append}
use Rattle.std.specs.List.{All}
use Rattle.std.proofs.lemmas.List.{drop-append-le}
use Rattle.std.proofs.lemmas.List.Elements.{All-append, All-cons, All-nil}
use Rattle.journal_store.specs.Fitting.{Fits}
use Rattle.journal_store.specs.Gates.{batch_size}
use Rattle.journal_store.specs.Ledger.{Appends, Keeps, settled}
use Rattle.journal_store.specs.declared.batch.TheConstants.{BATCH}
use Rattle.journal_store.specs.declared.gate.Gate.{Gate}
use Rattle.journal_store.specs.declared.gate.Gate.TheVariants.{Missing, Closed, Staged}
use Rattle.journal_store.specs.declared.journal.Journal.{Journal}
use Rattle.journal_store.specs.declared.start.Start.{Start}
use Rattle.records.specs.Ranges.{IsInRange}
use Rattle.request_text.specs.declared.entry.Entry.{Entry}
use Rattle.tick_model.specs.History.{MayFollow}
use Rattle.tick_model.proofs.Worlds.{legal-more, last_moment-more, last_number-more}

-- the next batch is still one of the first pending entries
staged-more : (gate : Gate) (pending : ℕ) → batch_size gate pending ≤ pending → batch_size gate (pending + 1) ≤ pending + 1
staged-more Missing pending within = omega arith
staged-more Closed pending within = omega arith
staged-more (Staged count) pending within = omega (arith, within)

most-more : (gate : Gate) (pending : ℕ) → batch_size gate pending ≤ BATCH → batch_size gate (pending + 1) ≤ BATCH
most-more Missing pending most = omega arith
most-more Closed pending most = omega arith
most-more (Staged count) pending most = most

some-more : (gate : Gate) (pending : ℕ) → 1 ≤ batch_size gate (pending + 1) → 1 ≤ batch_size gate (pending + 1 + 1)
some-more Missing pending some = omega arith
some-more Closed pending some = omega arith
some-more (Staged count) pending some = some

-- what holds of the numbers goes on
pub fits_more : (number moment capacity durable : ℕ) (pending more : List Entry) (gate : Gate) (end room : ℕ) (entry : Entry)
    → Fits number moment capacity durable pending gate end room → durable + length pending < capacity → IsInRange entry → more ≡ pending ++ entry ∷ []
    → Fits entry.number entry.moment capacity durable more gate end room
fits_more number moment capacity durable pending more gate end room entry fits free in_range are =
    let size : length more ≡ length pending + 1 = omega (arith, ap length are, length-append pending (entry ∷ [])) in
    record {
      number = in_range.to;
      moment = in_range.moment;
      count = omega (arith, size, free);
      spelled = subst (λ (l : List Entry). All IsInRange l) (sym are) (All-append IsInRange pending (entry ∷ []) fits.spelled (All-cons IsInRange entry [] in_range (All-nil IsInRange)));
      staged = subst (λ (n : ℕ). batch_size gate n ≤ n) (sym size) (staged-more gate (length pending) fits.staged);
      most = subst (λ (n : ℕ). batch_size gate n ≤ BATCH) (sym size) (most-more gate (length pending) fits.most);
      some = subst (λ (n : ℕ). 1 ≤ batch_size gate (n + 1)) (sym size) (some-more gate (length pending) fits.some);
      place = fits.place;
      room_is = fits.room_is;
    }

-- as many are durable as before
settled-more : (drawn : List Entry) (old new : Journal) (entry : Entry) → Appends old entry new → settled (drawn ++ entry ∷ []) new ≡ settled drawn old
settled-more drawn old new entry appends = omega (arith, length-append drawn (entry ∷ []), ap length appends.pending, length-append old.pending.items (entry ∷ []))

-- and the history stays legal
pub keeps_more : (start : Start) (drawn : List Entry) (old new : Journal) (entry : Entry) → MayFollow old.last_number old.last_moment entry → Appends old entry new → Keeps start drawn old
    → Keeps start (drawn ++ entry ∷ []) new
keeps_more start drawn old new entry follows appends keeps =
    let same : settled (drawn ++ entry ∷ []) new ≡ settled drawn old = settled-more drawn old new entry appends in
    record {
      legal = legal-more start.last_number start.last_moment drawn entry keeps.legal (record { next = follows.next ∙ ap (λ n. n + 1) keeps.number; latest = cc (follows.latest, keeps.moment) });
      number = appends.number ∙ sym (last_number-more start.last_number drawn entry);
      moment = appends.moment ∙ sym (last_moment-more start.last_moment drawn entry);
      capacity = appends.capacity ∙ keeps.capacity;
      durable = appends.durable ∙ keeps.durable ∙ ap (λ n. start.count + n) (sym same);
      pending = appends.pending
          ∙ ap (λ (l : List Entry). l ++ entry ∷ []) keeps.pending
          ∙ sym (drop-append-le (settled drawn old) drawn (entry ∷ []) (omega arith))
          ∙ ap (λ (n : ℕ). drop n (drawn ++ entry ∷ [])) (sym same);
    }
