-- One change more of a disk in memory.
use Rattle.std.proofs.Common.{◌≡◌, ℕ, List, [], ◌∷◌, ◌++◌, length, take, drop, append_assoc, take-append-drop, Bool, false, ◌&&◌, reverse, true, Vec, refl, sym, ◌∙◌, ap, arith, length-append}
use Rattle.std.proofs.lemmas.List.{reverse-append, take-append-le, take_all, drop-append-le, drop_all}
use Rattle.std.proofs.lemmas.List.Folds.{list_all-append}
use Rattle.std.specs.List.{list_all}
use Rattle.std.proofs.lemmas.Grind.{reverse_onto}
use Rattle.std.specs.declared.alloc.Global.{Global}
use Rattle.disk_port.specs.Contents.{written}
use Rattle.disk_port.specs.History.{read_of, kept_of, marked_by, marked_of, marked_after, is_unsynced, Fits}
use Rattle.disk_port.specs.declared.change.Change.{Change}
use Rattle.disk_port.specs.declared.change.Change.TheVariants.{Wrote, WroteNothing, Cut, CutNothing, Synced}

-- the newest one comes first
pub reverse-push : (changes : List Change) (change : Change) → reverse (changes ++ change ∷ []) ≡ change ∷ reverse changes
reverse-push changes change = reverse-append changes (change ∷ [])

module _ (first : List ℕ) (changes later : List Change) (bytes kept : List ℕ) (synced : ℕ) (fits : Fits first changes bytes kept synced) where
  -- a change that is no sync
  more : (change : Change) (now : List ℕ) → is_unsynced change ≡ true → later ≡ changes ++ change ∷ [] → now ≡ read_of first (change ∷ reverse changes) → kept_of first (change ∷ reverse changes) ≡ kept_of first (reverse changes)
      → Fits first later now kept synced
  more change now no_sync is reads keeps = record {
    read = reads ∙ ap (read_of first) (sym (ap reverse is ∙ reverse-push changes change));
    last = fits.last ∙ sym keeps ∙ ap (kept_of first) (sym (ap reverse is ∙ reverse-push changes change));
    within = omega (arith, fits.within, ap length is, length-append changes (change ∷ []));
    unmarked = λ byte. ap (λ (l : List Change). marked_of byte first (reverse l)) (ap (λ (l : List Change). take synced l) is ∙ take-append-le synced changes (change ∷ []) fits.within) ∙ fits.unmarked byte;
    unsynced = ap (λ (l : List Change). list_all is_unsynced (drop synced l)) is ∙ ap (list_all is_unsynced) (drop-append-le synced changes (change ∷ []) fits.within)
        ∙ list_all-append is_unsynced (drop synced changes) (change ∷ []) ∙ grind (arith, fits.unsynced, no_sync);
  }

  pub fits-wrote : (at : ℕ) (copy : Vec ℕ Global) (from now : List ℕ) → later ≡ changes ++ Wrote at copy ∷ [] → copy.items ≡ from → now ≡ written bytes at from → Fits first later now kept synced
  fits-wrote at copy from now is same wrote = more (Wrote at copy) now refl is (wrote ∙ ap (λ (l : List ℕ). written bytes at l) (sym same) ∙ ap (λ (l : List ℕ). written l at copy.items) fits.read) refl

  pub fits-wrote_nothing : (at count : ℕ) → later ≡ changes ++ WroteNothing at count ∷ [] → Fits first later bytes kept synced
  fits-wrote_nothing at count is = more (WroteNothing at count) bytes refl is fits.read refl

  pub fits-cut : (len : ℕ) (now : List ℕ) → later ≡ changes ++ Cut len ∷ [] → now ≡ take len bytes → Fits first later now kept synced
  fits-cut len now is cut = more (Cut len) now refl is (cut ∙ ap (λ (l : List ℕ). take len l) fits.read) refl

  pub fits-cut_nothing : (len : ℕ) → later ≡ changes ++ CutNothing len ∷ [] → Fits first later bytes kept synced
  fits-cut_nothing len is = more (CutNothing len) bytes refl is fits.read refl

  pub fits-synced : (count : ℕ) (now : List ℕ) → later ≡ changes ++ Synced ∷ [] → now ≡ bytes → count ≡ length later → Fits first later bytes now count
  fits-synced count now is same counts =
      let newest = ap reverse is ∙ reverse-push changes Synced in
      record {
        read = fits.read ∙ ap (read_of first) (sym newest);
        last = same ∙ fits.read ∙ ap (kept_of first) (sym newest);
        within = omega (arith, counts);
        unmarked = λ byte. ap (λ (l : List Change). marked_of byte first (reverse l)) (take_all count later (omega (arith, counts))) ∙ ap (marked_of byte first) newest ∙ sym fits.read ∙ sym same;
        unsynced = ap (list_all is_unsynced) (drop_all count later (omega (arith, counts)));
      }

-- a change that is no sync marks what was there
marked-more : (byte : ℕ) (first : List ℕ) (change : Change) (older : List Change) → is_unsynced change ≡ true → marked_by byte change (marked_of byte first older) ≡ marked_of byte first (change ∷ older)
marked-more byte first (Wrote at bytes) older no_sync = refl
marked-more byte first (WroteNothing at count) older no_sync = refl
marked-more byte first (Cut len) older no_sync = refl
marked-more byte first (CutNothing len) older no_sync = refl
marked-more byte first Synced older no_sync = absurd (cc no_sync)

-- two tests that hold together hold each
and_true : (a b : Bool) → (a && b) ≡ true → (a ≡ true) × (b ≡ true)
and_true true true h = (refl, refl)
and_true true false h = absurd (cc h)
and_true false b h = absurd (cc h)

-- and so do several, the oldest one first
marked-all : (byte : ℕ) (first : List ℕ) (later older : List Change) → list_all is_unsynced later ≡ true → marked_after byte (marked_of byte first older) later ≡ marked_of byte first (reverse later ++ older)
marked-all byte first [] older no_sync = refl
marked-all byte first (change ∷ later) older no_sync =
    let both = and_true (is_unsynced change) (list_all is_unsynced later) no_sync in
    ap (λ (l : List ℕ). marked_after byte l later) (marked-more byte first change older both.0)
    ∙ marked-all byte first later (change ∷ older) both.1
    ∙ ap (marked_of byte first) (sym (ap (λ (l : List Change). l ++ older) (reverse_onto later change []) ∙ append_assoc (reverse later) (change ∷ []) older))

-- what was written since the last sync, marked in what was kept
pub marked-since : (byte : ℕ) (first : List ℕ) (changes : List Change) (bytes kept : List ℕ) (synced : ℕ) → Fits first changes bytes kept synced
    → marked_after byte kept (drop synced changes) ≡ marked_of byte first (reverse changes)
marked-since byte first changes bytes kept synced fits =
    ap (λ (l : List ℕ). marked_after byte l (drop synced changes)) (sym (fits.unmarked byte))
    ∙ marked-all byte first (drop synced changes) (reverse (take synced changes)) fits.unsynced
    ∙ ap (marked_of byte first) (sym (reverse-append (take synced changes) (drop synced changes)))
    ∙ ap (λ (l : List Change). marked_of byte first (reverse l)) (take-append-drop synced changes)
