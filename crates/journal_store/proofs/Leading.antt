-- What the calls of a flush lead to.
use Rattle.std.proofs.Common.{◌≡◌, ℕ, ◌+◌, ◌-◌, ◌*◌, ◌≤◌, List, [], ◌∷◌, ◌++◌, length, take, drop, sym, ◌∙◌, ap, subst, arith, length-append, length-take}
use Rattle.std.proofs.lemmas.List.Elements.{All-push}
use Rattle.disk_port.specs.Contents.{written, Torn}
use Rattle.disk_port.specs.Moments.{EachNow, EachSince, TornFrom}
use Rattle.disk_port.specs.Story.{Story, Lawful}
use Rattle.disk_port.proofs.Moments.{started, joined, weakened, now-since, seen-now}
use Rattle.journal_store.specs.Batches.{IsBatch, open_batch, open_batches, entries_of, HoldsFirst}
use Rattle.journal_store.specs.Gates.{AtGate, Begins, IsFit, IsUnstaged, Rests, Stages, behind, batch_size, standing}
use Rattle.journal_store.specs.Ledger.{Settles, settled}
use Rattle.journal_store.specs.Standing.{Stands, CanFlush, Leads, Carries}
use Rattle.journal_store.specs.declared.batch.TheConstants.{BATCH}
use Rattle.journal_store.specs.declared.gate.Gate.{Gate}
use Rattle.journal_store.specs.declared.gate.Gate.TheVariants.{Closed, Staged}
use Rattle.journal_store.specs.declared.journal.Journal.{Journal}
use Rattle.journal_store.proofs.Holding.{batches-more, parts-more, is_batch, holds-at_gate}
use Rattle.journal_store.proofs.Sizes.{length-open}
use Rattle.journal_store.proofs.Writing.{at_gate-begins, batch-torn, batch-written, at_gate-long, gate-torn, gate-written}
use Rattle.request_text.specs.declared.entry.Entry.{Entry}

module _ {D : Type 0} (story : Story D) where
  -- where the durable batches end
  abbrev text_of : (front : List ℕ) (drawn : List Entry) (journal : Journal) (disk : D) → Stands story front drawn journal disk → List ℕ
  text_of front drawn journal disk stands = front ++ open_batches stands.done

  -- what stands there tells what a content holds
  at_gate-holds : (front : List ℕ) (drawn : List Entry) (journal : Journal) (disk : D) (stands : Stands story front drawn journal disk) (c : List ℕ) → IsFit journal.gate
      → AtGate journal.gate journal.pending.items (front ++ open_batches stands.done) c → HoldsFirst front drawn (settled drawn journal) c
  at_gate-holds front drawn journal disk stands c fit at =
      holds-at_gate journal.gate front stands.done journal.pending.items drawn c journal.fits.spelled journal.fits.staged journal.fits.most journal.fits.some stands.each stands.parts fit at

  -- and so each image
  pub images-hold : (front : List ℕ) (drawn : List Entry) (journal : Journal) (disk : D) → Stands story front drawn journal disk → IsFit journal.gate → EachNow story disk (HoldsFirst front drawn (settled drawn journal))
  images-hold front drawn journal disk stands fit = λ c left. at_gate-holds front drawn journal disk stands c fit (stands.images c left)

  -- if what stands there stands in each image since
  pub leads-by : (front : List ℕ) (drawn : List Entry) (old new : Journal) (before after : D) (stands : Stands story front drawn old before) → Stands story front drawn new after → (IsFit old.gate → IsFit new.gate)
      → EachSince story before after (AtGate old.gate old.pending.items (front ++ open_batches stands.done)) → Leads story front drawn old new before after
  leads-by front drawn old new before after stands stands_on fit since = record {
    stands = stands_on;
    kept = weakened story before after (AtGate old.gate old.pending.items (front ++ open_batches stands.done)) (Begins front) since (λ c at. at_gate-begins old.gate old.pending.items front (open_batches stands.done) c at);
    fit = fit;
    since = λ is_fit. weakened story before after (AtGate old.gate old.pending.items (front ++ open_batches stands.done)) (HoldsFirst front drawn (settled drawn old)) since
        (λ c at. at_gate-holds front drawn old before stands c is_fit at);
    now = λ is_fit. images-hold front drawn new after stands_on is_fit;
  }

  -- nothing was called
  pub leads-idle : (front : List ℕ) (drawn : List Entry) (journal : Journal) (disk : D) → Lawful story → story.tells disk → Stands story front drawn journal disk → Leads story front drawn journal journal disk disk
  leads-idle front drawn journal disk lawful told stands =
      leads-by front drawn journal journal disk disk stands stands (λ fit. fit)
      (started story disk (AtGate journal.gate journal.pending.items (front ++ open_batches stands.done)) lawful told stands.images)

  -- one call after another
  pub leads-on : (front : List ℕ) (drawn : List Entry) (old mid new : Journal) (before between after : D) → Settles 0 old mid → Leads story front drawn old mid before between → Leads story front drawn mid new between after
      → Leads story front drawn old new before after
  leads-on front drawn old mid new before between after same first second = record {
    stands = second.stands;
    kept = joined story before between after (Begins front) first.kept second.kept;
    fit = λ fit. second.fit (first.fit fit);
    since = λ fit.
        let P : List ℕ → Type 0 = HoldsFirst front drawn (settled drawn old) in
        let as_before : EachSince story between after P = subst (λ (l : List Entry). EachSince story between after (HoldsFirst front drawn (length drawn - length l))) same.pending (second.since (first.fit fit)) in
        joined story before between after P (first.since fit) as_before;
    now = second.now;
  }

  -- it can be flushed again
  pub can_again : (old new : Journal) (before after : D) → (story.tells before → CanFlush story old before)
      → Carries story old new before after → story.tells after → CanFlush story new after
  can_again old new before after can leads told =
      let was = can (leads told).0 in
      record { front = was.front; drawn = was.drawn; stands = ((leads told).1 was.front was.drawn was.stands).stands }

  -- what is torn of an image that has P has P
  since-torn : (before after : D) (at n : ℕ) (P : List ℕ → Type 0) → EachNow story before P → EachSince story before after (TornFrom story before at n) → ((d c : List ℕ) → P d → Torn at n d c → P c)
      → EachSince story before after P
  since-torn before after at n P each since stable = weakened story before after (TornFrom story before at n) P since (λ c from. stable from.0 c (each from.0 from.1) from.2)

  -- there is the place for what is written
  pub can_write : (journal : Journal) (disk : D) → Lawful story → story.tells disk → CanFlush story journal disk → journal.end + standing journal.gate ≤ length (story.seen disk)
  can_write journal disk lawful told can =
      let stands = can.stands in
      let text = can.front ++ open_batches stands.done in
      let seen = seen-now story disk (AtGate journal.gate journal.pending.items text) lawful told stands.images in
      omega (arith, at_gate-long journal.gate journal.pending.items text (story.seen disk) seen, stands.end_is)

  -- the same place, with other images
  stands-on : (front : List ℕ) (drawn : List Entry) (old new : Journal) (before after : D) (stands : Stands story front drawn old before) → new.pending.items ≡ old.pending.items → new.end ≡ old.end
      → EachNow story after (AtGate new.gate old.pending.items (front ++ open_batches stands.done)) → Stands story front drawn new after
  stands-on front drawn old new before after stands pending_is end_is images = record {
    done = stands.done;
    each = stands.each;
    parts = ap (λ (l : List Entry). entries_of stands.done ++ l) pending_is ∙ stands.parts;
    end_is = stands.end_is ∙ sym end_is;
    images = λ c left. subst (λ (l : List Entry). AtGate new.gate l (front ++ open_batches stands.done) c) (sym pending_is) (images c left);
  }

  -- a write, or its sync, failed
  leads-failed : (front : List ℕ) (drawn : List Entry) (old new : Journal) (before after : D) (at n : ℕ) (stands : Stands story front drawn old before) → Lawful story → story.tells after → new.pending.items ≡ old.pending.items
      → new.end ≡ old.end → new.gate ≡ old.gate → EachSince story before after (TornFrom story before at n)
      → ((d c : List ℕ) → AtGate old.gate old.pending.items (front ++ open_batches stands.done) d → Torn at n d c → AtGate old.gate old.pending.items (front ++ open_batches stands.done) c) → Leads story front drawn old new before after
  leads-failed front drawn old new before after at n stands lawful told pending_is end_is gate_is since stable =
      let text = front ++ open_batches stands.done in
      let P : List ℕ → Type 0 = AtGate old.gate old.pending.items text in
      let since_P : EachSince story before after P = since-torn before after at n P stands.images since stable in
      let images : EachNow story after P = now-since story before after P lawful told since_P in
      leads-by front drawn old new before after stands
      (stands-on front drawn old new before after stands pending_is end_is (λ c left. subst (λ (g : Gate). AtGate g old.pending.items text c) (sym gate_is) (images c left)))
      (λ fit. subst IsFit (sym gate_is) fit)
      since_P

  pub batch-failed : (front : List ℕ) (drawn : List Entry) (old new : Journal) (before after : D) (at n : ℕ) → Stands story front drawn old before → Lawful story → story.tells after → new.pending.items ≡ old.pending.items
      → new.end ≡ old.end → new.gate ≡ old.gate → EachSince story before after (TornFrom story before at n) → IsUnstaged old.gate → at ≡ old.end + standing old.gate → Leads story front drawn old new before after
  batch-failed front drawn old new before after at n stands lawful told pending_is end_is gate_is since unstaged at_is =
      let text = front ++ open_batches stands.done in
      leads-failed front drawn old new before after at n stands lawful told pending_is end_is gate_is since
      (λ d c at_gate torn. batch-torn old.gate old.pending.items text d c at n unstaged (at_is ∙ ap (λ e. e + standing old.gate) (sym stands.end_is)) at_gate torn)

  pub gate-failed : (front : List ℕ) (drawn : List Entry) (old new : Journal) (before after : D) (count : ℕ) → Stands story front drawn old before → Lawful story → story.tells after → new.pending.items ≡ old.pending.items
      → new.end ≡ old.end → new.gate ≡ old.gate → EachSince story before after (TornFrom story before old.end 1) → old.gate ≡ Staged count → Leads story front drawn old new before after
  gate-failed front drawn old new before after count stands lawful told pending_is end_is gate_is since staged =
      let text = front ++ open_batches stands.done in
      let pending = old.pending.items in
      leads-failed front drawn old new before after old.end 1 stands lawful told pending_is end_is gate_is since
      (λ d c at_gate torn. subst (λ (g : Gate). AtGate g pending text c) (sym staged)
      (gate-torn text (behind (take count pending)) d c old.end stands.end_is (subst (λ (g : Gate). AtGate g pending text d) staged at_gate) torn))

  -- a batch is staged
  pub batch-staged : (front : List ℕ) (drawn : List Entry) (old new : Journal) (before after : D) (at n count : ℕ) → Stands story front drawn old before → Lawful story → story.tells before → new.pending.items ≡ old.pending.items
      → new.end ≡ old.end → new.gate ≡ Staged count → EachSince story before after (TornFrom story before at n) → IsUnstaged old.gate → at ≡ old.end + standing old.gate
      → EachNow story after (λ c. c ≡ written (story.seen before) at (drop (standing old.gate) (0 ∷ behind (take count old.pending.items)))) → Leads story front drawn old new before after
  batch-staged front drawn old new before after at n count stands lawful told pending_is end_is gate_is since unstaged at_is synced =
      let text = front ++ open_batches stands.done in
      let pending = old.pending.items in
      let P : List ℕ → Type 0 = AtGate old.gate pending text in
      let at_end : at ≡ length text + standing old.gate = at_is ∙ ap (λ e. e + standing old.gate) (sym stands.end_is) in
      let seen : P (story.seen before) = seen-now story before P lawful told stands.images in
      let now : (c : List ℕ) → story.leaves after c → Stages text (behind (take count pending)) c = λ c left.
      subst (λ (l : List ℕ). Stages text (behind (take count pending)) l) (sym (synced c left))
      (batch-written old.gate pending text (behind (take count pending)) (story.seen before) at unstaged at_end seen) in
      leads-by front drawn old new before after stands
      (stands-on front drawn old new before after stands pending_is end_is (λ c left. subst (λ (g : Gate). AtGate g pending text c) (sym gate_is) (now c left)))
      (λ fit. subst IsFit (sym gate_is) tt)
      (since-torn before after at n P stands.images since (λ d c at_gate torn. batch-torn old.gate pending text d c at n unstaged at_end at_gate torn))

  -- its gate is opened
  pub gate-opened : (front : List ℕ) (drawn : List Entry) (old new : Journal) (before after : D) (count : ℕ) → Stands story front drawn old before → Lawful story → story.tells before → new.pending.items ≡ drop count old.pending.items
      → new.end ≡ old.end + 2 + 256 * count → new.gate ≡ Closed → EachSince story before after (TornFrom story before old.end 1) → old.gate ≡ Staged count
      → EachNow story after (λ c. c ≡ written (story.seen before) old.end (1 ∷ [])) → Leads story front drawn old new before after
  gate-opened front drawn old new before after count stands lawful told pending_is end_is gate_is since staged synced =
      let text = front ++ open_batches stands.done in
      let pending = old.pending.items in
      let entries = take count pending in
      let P : List ℕ → Type 0 = AtGate old.gate pending text in
      let as_staged : (c : List ℕ) → P c → Stages text (behind entries) c = λ c at_gate. subst (λ (g : Gate). AtGate g pending text c) staged at_gate in
      let within : count ≤ length pending = subst (λ (g : Gate). batch_size g (length pending) ≤ length pending) staged old.fits.staged in
      let most : count ≤ BATCH = subst (λ (g : Gate). batch_size g (length pending) ≤ BATCH) staged old.fits.most in
      let some : 1 ≤ count = subst (λ (g : Gate). 1 ≤ batch_size g (length pending + 1)) staged old.fits.some in
      let whole : front ++ open_batches (stands.done ++ entries ∷ []) ≡ text ++ open_batch entries = batches-more front stands.done entries in
      let seen : Stages text (behind entries) (story.seen before) = as_staged (story.seen before) (seen-now story before P lawful told stands.images) in
      let rests : Rests (text ++ open_batch entries) (written (story.seen before) old.end (1 ∷ [])) = gate-written text entries (story.seen before) old.end stands.end_is seen in
      let stands_on : Stands story front drawn new after = record {
        done = stands.done ++ entries ∷ [];
        each = All-push IsBatch stands.done entries stands.each (is_batch pending count old.fits.spelled some most within);
        parts = ap (λ (l : List Entry). entries_of (stands.done ++ entries ∷ []) ++ l) pending_is ∙ parts-more stands.done pending drawn count stands.parts;
        end_is = omega (arith, ap length whole, length-append text (open_batch entries), length-open entries, length-take count pending, stands.end_is, end_is, within);
        images = λ c left.
            subst (λ (g : Gate). AtGate g new.pending.items (front ++ open_batches (stands.done ++ entries ∷ [])) c) (sym gate_is)
            (subst (λ (l : List ℕ). Rests l c) (sym whole) (subst (λ (l : List ℕ). Rests (text ++ open_batch entries) l) (sym (synced c left)) rests));
      } in
      leads-by front drawn old new before after stands stands_on (λ fit. subst IsFit (sym gate_is) tt)
      (since-torn before after old.end 1 P stands.images since
      (λ d c at_gate torn. subst (λ (g : Gate). AtGate g pending text c) (sym staged) (gate-torn text (behind entries) d c old.end stands.end_is (as_staged d at_gate) torn)))

  -- both of a flush's calls
  pub told-on : (old mid new : Journal) (before between after : D) → Settles 0 old mid → Carries story old mid before between
      → Carries story mid new between after
      → Carries story old new before after
  told-on old mid new before between after same first second told =
      let later = second told in
      let sooner = first later.0 in (
        sooner.0,
        λ front drawn stands.
            let leads = sooner.1 front drawn stands in
            leads-on front drawn old mid new before between after same leads (later.1 front drawn leads.stands),
      )
