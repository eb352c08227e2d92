-- Which entries a content holds, by what stands where its batches end.
use Rattle.std.proofs.Common.{◌≡◌, inl, inr, ℕ, ◌+◌, ◌-◌, ◌≤◌, List, [], ◌∷◌, ◌++◌, length, take, drop, refl, sym, ◌∙◌, ap, subst, arith, append_assoc, append-nil, length-append, length-take, take-append-drop}
use Rattle.std.specs.List.{All}
use Rattle.std.proofs.lemmas.Bool.{cases_eq}
use Rattle.std.proofs.lemmas.List.{take_at, drop_at}
use Rattle.std.proofs.lemmas.List.Concat.{flat_map-append}
use Rattle.std.proofs.lemmas.List.Elements.{All-push, All-take}
use Rattle.journal_store.specs.Batches.{IsBatch, open_batch, open_batches, entries_of, HoldsFirst}
use Rattle.journal_store.specs.Gates.{AtGate, IsFit, Rests, Stages, behind, batch_size}
use Rattle.journal_store.specs.declared.batch.TheConstants.{BATCH}
use Rattle.journal_store.specs.declared.gate.Gate.{Gate}
use Rattle.journal_store.specs.declared.gate.Gate.TheVariants.{Missing, Closed, Staged}
use Rattle.journal_store.proofs.Contents.{rests-opened, opens-staged, rests-staged}
use Rattle.records.specs.Ranges.{IsInRange}
use Rattle.request_text.specs.declared.entry.Entry.{Entry}

-- one batch more
pub batches-more : (front : List ℕ) (done : List (List Entry)) (batch : List Entry) → front ++ open_batches (done ++ batch ∷ []) ≡ (front ++ open_batches done) ++ open_batch batch
batches-more front done batch =
    ap (λ (l : List ℕ). front ++ l) (flat_map-append open_batch done (batch ∷ []) ∙ ap (λ (l : List ℕ). open_batches done ++ l) (append-nil (open_batch batch)))
    ∙ sym (append_assoc front (open_batches done) (open_batch batch))

pub entries-more : (done : List (List Entry)) (batch : List Entry) → entries_of (done ++ batch ∷ []) ≡ entries_of done ++ batch
entries-more done batch = flat_map-append (λ (l : List Entry). l) done (batch ∷ []) ∙ ap (λ (l : List Entry). entries_of done ++ l) (append-nil batch)

-- a front part of a list
front_is : (done pending drawn : List Entry) → done ++ pending ≡ drawn → take (length done) drawn ≡ done
front_is done pending drawn parts = ap (take (length done)) (sym parts) ∙ take_at done pending (length done) refl

-- behind whole batches stands a closed gate
pub holds-rested : (front : List ℕ) (done : List (List Entry)) (pending drawn : List Entry) (least : ℕ) (c : List ℕ) → All IsBatch done → entries_of done ++ pending ≡ drawn → least ≤ length (entries_of done)
    → Rests (front ++ open_batches done) c → HoldsFirst front drawn least c
holds-rested front done pending drawn least c each parts enough rests =
    let whole : c ≡ front ++ (open_batches done ++ rests.gate ∷ rests.rest) = rests.is ∙ append_assoc front (open_batches done) (rests.gate ∷ rests.rest) in
    record {
      begins = ap (take (length front)) whole ∙ take_at front (open_batches done ++ rests.gate ∷ rests.rest) (length front) refl;
      count = length (entries_of done);
      no_less = enough;
      no_more = omega (arith, ap length parts, length-append (entries_of done) pending);
      end = length front + length (open_batches done);
      batches = record {
        batches = done;
        each = each;
        entries_are = front_is (entries_of done) pending drawn parts;
        rest = rests.gate ∷ rests.rest;
        bytes_are = ap (drop (length front)) whole ∙ drop_at front (open_batches done ++ rests.gate ∷ rests.rest) (length front) refl;
        shut = rests.shut;
        end_is = refl;
      };
      fit = omega (arith, ap length whole, length-append front (open_batches done ++ rests.gate ∷ rests.rest), length-append (open_batches done) (rests.gate ∷ rests.rest));
    }

-- the next batch counts among those that are done
pub parts-more : (done : List (List Entry)) (pending drawn : List Entry) (count : ℕ) → entries_of done ++ pending ≡ drawn → entries_of (done ++ take count pending ∷ []) ++ drop count pending ≡ drawn
parts-more done pending drawn count parts =
    ap (λ (l : List Entry). l ++ drop count pending) (entries-more done (take count pending))
    ∙ append_assoc (entries_of done) (take count pending) (drop count pending)
    ∙ ap (λ (l : List Entry). entries_of done ++ l) (take-append-drop count pending)
    ∙ parts

-- behind a gate that may be open stands a batch
holds-staged : (front : List ℕ) (done : List (List Entry)) (pending drawn : List Entry) (count : ℕ) (c : List ℕ) → All IsBatch done → entries_of done ++ pending ≡ drawn → IsBatch (take count pending)
    → Stages (front ++ open_batches done) (behind (take count pending)) c → HoldsFirst front drawn (length (entries_of done)) c
holds-staged front done pending drawn count c each parts batch stages =
    let text = front ++ open_batches done in
    let entries = take count pending in
    elim (cases_eq stages.gate 1) [
      | inl is ↦
          let rests : Rests (text ++ open_batch entries) c = rests-opened text entries c (opens-staged text (behind entries) c stages is) in
          holds-rested front (done ++ entries ∷ []) (drop count pending) drawn (length (entries_of done)) c (All-push IsBatch done entries each batch) (parts-more done pending drawn count parts)
          (omega (arith, ap length (entries-more done entries), length-append (entries_of done) entries))
          (subst (λ (l : List ℕ). Rests l c) (sym (batches-more front done entries)) rests)
      | inr shut ↦ holds-rested front done pending drawn (length (entries_of done)) c each parts (omega arith) (rests-staged text (behind entries) c stages shut)
    ]

-- the first so many entries that are pending are a batch
pub is_batch : (pending : List Entry) (count : ℕ) → All IsInRange pending → 1 ≤ count → count ≤ BATCH → count ≤ length pending → IsBatch (take count pending)
is_batch pending count spelled some most within = record {
  some = omega (arith, length-take count pending);
  most = omega (arith, length-take count pending);
  spelled = All-take IsInRange count pending spelled;
}

-- each image holds the entries that are done
pub holds-at_gate : (gate : Gate) (front : List ℕ) (done : List (List Entry)) (pending drawn : List Entry) (c : List ℕ) → All IsInRange pending → batch_size gate (length pending) ≤ length pending
    → batch_size gate (length pending) ≤ BATCH → 1 ≤ batch_size gate (length pending + 1) → All IsBatch done → entries_of done ++ pending ≡ drawn → IsFit gate → AtGate gate pending (front ++ open_batches done) c
    → HoldsFirst front drawn (length drawn - length pending) c
holds-at_gate gate front done pending drawn c spelled staged most some each parts fit at =
    let least : length drawn - length pending ≡ length (entries_of done) = omega (arith, ap length parts, length-append (entries_of done) pending) in
    subst (λ (n : ℕ). HoldsFirst front drawn n c) (sym least) (by_gate gate staged most some fit at)
  where
    by_gate : (gate : Gate) → batch_size gate (length pending) ≤ length pending → batch_size gate (length pending) ≤ BATCH → 1 ≤ batch_size gate (length pending + 1) → IsFit gate
        → AtGate gate pending (front ++ open_batches done) c → HoldsFirst front drawn (length (entries_of done)) c
    by_gate Missing staged most some fit at = absurd fit
    by_gate Closed staged most some fit at = holds-rested front done pending drawn (length (entries_of done)) c each parts (omega arith) at
    by_gate (Staged count) staged most some fit at = holds-staged front done pending drawn count c each parts (is_batch pending count spelled some most staged) at
