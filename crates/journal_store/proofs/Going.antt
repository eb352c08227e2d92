-- How a disk goes on to stand to its journal.
use Rattle.std.proofs.Common.{◌≡◌, ℕ, ◌≤◌, List, [], ◌∷◌, ◌++◌, length, sym, ◌∙◌, ap, subst, arith, append_assoc, append-nil, length-append}
use Rattle.std.proofs.lemmas.List.{take-append-le}
use Rattle.std.proofs.lemmas.List.Elements.{All-nil}
use Rattle.disk_port.specs.Moments.{EachNow, EachSince}
use Rattle.disk_port.specs.Story.{Story}
use Rattle.disk_port.proofs.Moments.{joined, weakened}
use Rattle.journal_store.specs.Batches.{Batches, HoldsFirst, IsBatch, open_batches, entries_of}
use Rattle.journal_store.specs.Gates.{AtGate, Stages, batch_size, behind}
use Rattle.journal_store.specs.Ledger.{Appends, Draws, IsNew, SameEntries, SamePlace, numbered}
use Rattle.journal_store.specs.Standing.{CanFlush, Stands}
use Rattle.journal_store.specs.declared.drawing.Draw.{Draw}
use Rattle.journal_store.specs.declared.drawing.Draw.TheVariants.{Full, Late, Taken}
use Rattle.journal_store.specs.declared.drawing.Prepared.{Prepared}
use Rattle.journal_store.specs.declared.gate.Gate.{Gate}
use Rattle.journal_store.specs.declared.gate.Gate.TheVariants.{Missing, Closed, Staged}
use Rattle.journal_store.specs.declared.journal.Journal.{Journal}
use Rattle.journal_store.specs.declared.start.Start.{Start}
use Rattle.request_text.specs.declared.entry.Entry.{Entry}

-- entries that come later change nothing of what is staged
at_gate-more : (gate : Gate) (pending more : List Entry) (text c : List ℕ) → batch_size gate (length pending) ≤ length pending → AtGate gate pending text c → AtGate gate (pending ++ more) text c
at_gate-more Missing pending more text c within at = at
at_gate-more Closed pending more text c within at = at
at_gate-more (Staged count) pending more text c within at = subst (λ (l : List Entry). Stages text (behind l) c) (sym (take-append-le count pending more within)) at

-- nor of what is held
holds-more : (front : List ℕ) (drawn more : List Entry) (least less : ℕ) (c : List ℕ) → less ≤ least → HoldsFirst front drawn least c → HoldsFirst front (drawn ++ more) less c
holds-more front drawn more least less c fewer holds = record {
  begins = holds.begins;
  count = holds.count;
  no_less = omega (arith, holds.no_less);
  no_more = omega (arith, holds.no_more, length-append drawn more);
  end = holds.end;
  batches = subst (λ (l : List Entry). Batches c (length front) l holds.end) (sym (take-append-le holds.count drawn more holds.no_more)) holds.batches;
  fit = holds.fit;
}

module _ {D : Type 0} (story : Story D) where
  pub stands-started : (start : Start) (front : List ℕ) (journal : Journal) (disk : D) → IsNew start journal → length front ≡ start.end → EachNow story disk (AtGate journal.gate [] front) → Stands story front [] journal disk
  stands-started start front journal disk is_new long images =
      let text_is : front ++ open_batches [] ≡ front = append-nil front in
      record {
        done = [];
        each = All-nil IsBatch;
        parts = is_new.pending;
        end_is = ap length text_is ∙ long ∙ sym is_new.end;
        images = λ c left.
            subst (λ (l : List ℕ). AtGate journal.gate journal.pending.items l c) (sym text_is) (subst (λ (l : List Entry). AtGate journal.gate l front c) (sym is_new.pending) (images c left));
      }

  pub stands-reserved : (front : List ℕ) (drawn : List Entry) (old new : Journal) (disk : D) → Stands story front drawn old disk → SamePlace old new → SameEntries old new → Stands story front drawn new disk
  stands-reserved front drawn old new disk stands place entries = record {
    done = stands.done;
    each = stands.each;
    parts = ap (λ (l : List Entry). entries_of stands.done ++ l) entries.pending ∙ stands.parts;
    end_is = stands.end_is ∙ sym place.end;
    images = λ c left.
        subst (λ (g : Gate). AtGate g new.pending.items (front ++ open_batches stands.done) c) (sym place.gate)
        (subst (λ (l : List Entry). AtGate old.gate l (front ++ open_batches stands.done) c) (sym entries.pending) (stands.images c left));
  }

  pub stands-appended : (front : List ℕ) (drawn : List Entry) (entry : Entry) (old new : Journal) (disk : D) → Stands story front drawn old disk → Appends old entry new → Stands story front (drawn ++ entry ∷ []) new disk
  stands-appended front drawn entry old new disk stands appends = record {
    done = stands.done;
    each = stands.each;
    parts = ap (λ (l : List Entry). entries_of stands.done ++ l) appends.pending ∙ sym (append_assoc (entries_of stands.done) old.pending.items (entry ∷ [])) ∙ ap (λ (l : List Entry). l ++ entry ∷ []) stands.parts;
    end_is = stands.end_is ∙ sym appends.place.end;
    images = λ c left.
        subst (λ (g : Gate). AtGate g new.pending.items (front ++ open_batches stands.done) c) (sym appends.place.gate)
        (subst (λ (l : List Entry). AtGate old.gate l (front ++ open_batches stands.done) c) (sym appends.pending)
        (at_gate-more old.gate old.pending.items (entry ∷ []) (front ++ open_batches stands.done) c old.fits.staged (stands.images c left)));
  }

  pub holds-on : (front : List ℕ) (drawn more : List Entry) (least less : ℕ) (old mid new : D) → less ≤ least → EachSince story old mid (HoldsFirst front drawn less) → EachSince story mid new (HoldsFirst front (drawn ++ more) least)
      → EachSince story old new (HoldsFirst front (drawn ++ more) less)
  holds-on front drawn more least less old mid new fewer first second =
      let P : List ℕ → Type 0 = HoldsFirst front (drawn ++ more) less in
      let all_are : (drawn ++ more) ++ [] ≡ drawn ++ more = append-nil (drawn ++ more) in
      joined story old mid new P
      (weakened story old mid (HoldsFirst front drawn less) P first (λ c holds. holds-more front drawn more less less c (omega arith) holds))
      (weakened story mid new (HoldsFirst front (drawn ++ more) least) P second
      (λ c holds. subst (λ (l : List Entry). HoldsFirst front l less c) all_are (holds-more front (drawn ++ more) [] least less c fewer holds)))

  -- it can be flushed after a reserve
  pub can-reserved : (old new : Journal) (disk : D) → CanFlush story old disk → SamePlace old new → SameEntries old new → CanFlush story new disk
  can-reserved old new disk can place entries = record { front = can.front; drawn = can.drawn; stands = stands-reserved can.front can.drawn old new disk can.stands place entries }

  -- and after a draw
  pub can-drawn : (old new : Journal) (prepared : Prepared) (draw : Draw) (disk : D) → CanFlush story old disk → Draws old prepared new draw → CanFlush story new disk
  can-drawn old new prepared (Full count) disk can draws = subst (λ (j : Journal). CanFlush story j disk) (sym draws.2) can
  can-drawn old new prepared (Late last) disk can draws = subst (λ (j : Journal). CanFlush story j disk) (sym draws.3) can
  can-drawn old new prepared (Taken number) disk can draws =
      let entry = numbered prepared number in
      record { front = can.front; drawn = can.drawn ++ entry ∷ []; stands = stands-appended can.front can.drawn entry old new disk can.stands draws.3 }
