-- What a disk in memory tells after a call, by what the call noted.
use Rattle.std.proofs.Common.{◌≡◌, ◌⊎◌, inl, inr, ⊎_elim, ℕ, ◌-◌, ◌==◌, if◌then◌else◌, Bool, true, List, [], ◌∷◌, ◌++◌, length, drop, reverse, Result, Ok, Err, OnOk, is_err, false, Vec, refl, sym, ◌∙◌, ap, subst, arith, length-append}
use Rattle.std.proofs.lemmas.List.{length-reverse}
use Rattle.std.specs.declared.alloc.Global.{Global}
use Rattle.disk_port.specs.Contents.{Torn, Shortened}
use Rattle.disk_port.specs.Disk.{Rests, Tears, Settles, Elapses}
use Rattle.disk_port.specs.History.{read_of, kept_of, marked_of, marked_after, IsLeft, WasLeft}
use Rattle.disk_port.specs.HistoryLaws.{torn_not, shortened_not, read_is_left, kept_is_left, marked_is_left}
use Rattle.disk_port.specs.Memory.{memory_story, picked}
use Rattle.disk_port.specs.declared.change.Change.{Change}
use Rattle.disk_port.specs.declared.change.Change.TheVariants.{Wrote, WroteNothing, Cut, CutNothing, Synced}
use Rattle.disk_port.specs.declared.memory.MemoryDisk.{MemoryDisk}
use Rattle.disk_port.proofs.Histories.{reverse-push, marked-since}

-- the images of the same changes, and their past
left_of : (first other : List ℕ) (changes later : List Change) (c : List ℕ) → other ≡ first → later ≡ changes → IsLeft first changes c → IsLeft other later c
left_of first other changes later c firsts are left =
    subst (λ (l : List ℕ). IsLeft l later c) (sym firsts) (subst (λ (l : List Change). IsLeft first l c) (sym are) left)

was_left_of : (first other : List ℕ) (changes later : List Change) (t : ℕ) (c : List ℕ) → other ≡ first → later ≡ changes → WasLeft first changes t c → WasLeft other later t c
was_left_of first other changes later t c firsts are left =
    subst (λ (l : List ℕ). WasLeft l later t c) (sym firsts) (subst (λ (l : List Change). WasLeft first l t c) (sym are) left)

-- what holds anyway holds if a call succeeds
on_ok : {T E P : Type 0} (result : Result T E) → P → OnOk result P
on_ok (Ok value) p = p
on_ok (Err error) p = tt

-- and what holds if it succeeds holds where it did
pub if_ok : {T E P : Type 0} (result : Result T E) → OnOk result P → is_err result ≡ false → P
if_ok (Ok value) p succeeds = p
if_ok (Err error) p succeeds = absurd (cc succeeds)

-- nothing was noted
module _ (old new : MemoryDisk) (first_is : new.first.items ≡ old.first.items) (changes_are : new.changes.items ≡ old.changes.items) where
  back : (c : List ℕ) → memory_story.leaves new c → memory_story.leaves old c
  back c left = left_of new.first.items old.first.items (reverse new.changes.items) (reverse old.changes.items) c (sym first_is) (ap reverse (sym changes_are)) left

  forth : (c : List ℕ) → memory_story.leaves old c → memory_story.leaves new c
  forth c left = left_of old.first.items new.first.items (reverse old.changes.items) (reverse new.changes.items) c first_is (ap reverse changes_are) left

  pub rests-same : new.bytes.items ≡ old.bytes.items → Rests memory_story old new
  rests-same bytes_are = record { seen = bytes_are; none_added = back; none_lost = forth }

  pub elapses-same : Elapses memory_story old new
  elapses-same = record {
    passes = record {
      later = omega (arith, ap length changes_are);
      kept = λ t c le left. was_left_of old.first.items new.first.items (reverse old.changes.items) (reverse new.changes.items) t c first_is (ap reverse changes_are) left;
    };
    no_other = λ t c le left. inl (was_left_of new.first.items old.first.items (reverse new.changes.items) (reverse old.changes.items) t c (sym first_is) (ap reverse (sym changes_are)) left);
  }

  pub tears-same : {T E : Type 0} (may : List ℕ → List ℕ → Type 0) (e : E) → ((c : List ℕ) → may c c) → Tears memory_story {T = T} may old new (Err e)
  tears-same may e stays = record { no_other = λ c left. (c, back c left, stays c); none_lost = forth; all = tt }

  pub settles-same : {T E : Type 0} (e : E) → new.bytes.items ≡ old.bytes.items → Settles memory_story {T = T} old new (Err e)
  settles-same e bytes_are = record { seen = bytes_are; none_added = back; settled = tt; none_lost = forth }

-- one change was noted
module _ (old new : MemoryDisk) (first_is : new.first.items ≡ old.first.items) (change : Change) (changes_are : new.changes.items ≡ old.changes.items ++ change ∷ []) where
  newest : reverse new.changes.items ≡ change ∷ reverse old.changes.items
  newest = ap reverse changes_are ∙ reverse-push old.changes.items change

  pub left_by : (c : List ℕ) → memory_story.leaves new c → IsLeft old.first.items (change ∷ reverse old.changes.items) c
  left_by c left = left_of new.first.items old.first.items (reverse new.changes.items) (change ∷ reverse old.changes.items) c (sym first_is) (sym newest) left

  pub leaves_by : (c : List ℕ) → IsLeft old.first.items (change ∷ reverse old.changes.items) c → memory_story.leaves new c
  leaves_by c left = left_of old.first.items new.first.items (change ∷ reverse old.changes.items) (reverse new.changes.items) c first_is newest left

  pub elapses-more : Elapses memory_story old new
  elapses-more = record {
    passes = record {
      later = omega (arith, ap length changes_are, length-append old.changes.items (change ∷ []));
      kept = λ t c le left. was_left_of old.first.items new.first.items (change ∷ reverse old.changes.items) (reverse new.changes.items) t c first_is newest
          (inr (omega (arith, le, length-reverse old.changes.items), left));
    };
    no_other = λ t c le left. ⊎_elim
        (λ now. inr (leaves_by c now))
        (λ earlier. inl earlier.1)
        (was_left_of new.first.items old.first.items (reverse new.changes.items) (change ∷ reverse old.changes.items) t c (sym first_is) (sym newest) left);
  }

-- whether or not it was noted
pub elapses-either : (old new : MemoryDisk) (change : Change) → new.first.items ≡ old.first.items → (new.changes.items ≡ old.changes.items ++ change ∷ []) ⊎ (new.changes.items ≡ old.changes.items) → Elapses memory_story old new
elapses-either old new change first_is (inl noted) = elapses-more old new first_is change noted
elapses-either old new change first_is (inr unnoted) = elapses-same old new first_is unnoted

-- a write
pub tears-wrote : {T E : Type 0} (old new : MemoryDisk) (result : Result T E) (at : ℕ) (copy : Vec ℕ Global) (from : List ℕ) → new.first.items ≡ old.first.items
    → new.changes.items ≡ old.changes.items ++ Wrote at copy ∷ [] → copy.items ≡ from → Tears memory_story (Torn at (length from)) old new result
tears-wrote {T} {E} old new result at copy from first_is are same =
    let F : List ℕ → Type 0 = λ (l : List ℕ). Tears memory_story {T = T} {E = E} (Torn at (length l)) old new result in
    subst F same (record {
      no_other = λ c left. left_by old new first_is (Wrote at copy) are c left;
      none_lost = λ c left. leaves_by old new first_is (Wrote at copy) are c (c, left, torn_not at (length copy.items) c);
      all = on_ok result (λ d c left torn. leaves_by old new first_is (Wrote at copy) are c (d, left, torn));
    })

pub tears-wrote_nothing : {T E : Type 0} (old new : MemoryDisk) (e : E) (at count : ℕ) → new.first.items ≡ old.first.items
    → (new.changes.items ≡ old.changes.items ++ WroteNothing at count ∷ []) ⊎ (new.changes.items ≡ old.changes.items) → Tears memory_story {T = T} (Torn at count) old new (Err e)
tears-wrote_nothing old new e at count first_is (inl are) = record {
  no_other = λ c left. left_by old new first_is (WroteNothing at count) are c left;
  none_lost = λ c left. leaves_by old new first_is (WroteNothing at count) are c (c, left, torn_not at count c);
  all = tt;
}
tears-wrote_nothing old new e at count first_is (inr are) = tears-same old new first_is are (Torn at count) e (torn_not at count)

-- a cut
pub tears-cut : {T E : Type 0} (old new : MemoryDisk) (result : Result T E) (len : ℕ) → new.first.items ≡ old.first.items
    → new.changes.items ≡ old.changes.items ++ Cut len ∷ [] → Tears memory_story (Shortened len) old new result
tears-cut old new result len first_is are = record {
  no_other = λ c left. left_by old new first_is (Cut len) are c left;
  none_lost = λ c left. leaves_by old new first_is (Cut len) are c (c, left, shortened_not len c);
  all = on_ok result (λ d c left short. leaves_by old new first_is (Cut len) are c (d, left, short));
}

pub tears-cut_nothing : {T E : Type 0} (old new : MemoryDisk) (e : E) (len : ℕ) → new.first.items ≡ old.first.items
    → (new.changes.items ≡ old.changes.items ++ CutNothing len ∷ []) ⊎ (new.changes.items ≡ old.changes.items) → Tears memory_story {T = T} (Shortened len) old new (Err e)
tears-cut_nothing old new e len first_is (inl are) = record {
  no_other = λ c left. left_by old new first_is (CutNothing len) are c left;
  none_lost = λ c left. leaves_by old new first_is (CutNothing len) are c (c, left, shortened_not len c);
  all = tt;
}
tears-cut_nothing old new e len first_is (inr are) = tears-same old new first_is are (Shortened len) e (shortened_not len)

-- a sync
pub settles-synced : {T E : Type 0} (old new : MemoryDisk) (value : T) → new.first.items ≡ old.first.items → new.changes.items ≡ old.changes.items ++ Synced ∷ [] → new.bytes.items ≡ old.bytes.items
    → Settles memory_story {E = E} old new (Ok value)
settles-synced old new value first_is are bytes_are = record {
  seen = bytes_are;
  none_added = λ c left.
      let is : c ≡ read_of old.first.items (reverse old.changes.items) = left_by old new first_is Synced are c left in
      subst (λ (l : List ℕ). IsLeft old.first.items (reverse old.changes.items) l) (sym is) (read_is_left old.first.items (reverse old.changes.items));
  settled = λ c left. left_by old new first_is Synced are c left ∙ sym old.fits.read ∙ sym bytes_are;
  none_lost = tt;
}

one_of : (a b : Bool) (P : List ℕ → Type 0) (x y z : List ℕ) → P x → P y → P z → P (if a then x else if b then y else z)
one_of true b P x y z first second third = first
one_of false true P x y z first second third = second
one_of false false P x y z first second third = third

-- each pick is an image that a crash may leave
pub picked_is_left : (disk : MemoryDisk) (pick : ℕ) → memory_story.leaves disk (picked disk pick)
picked_is_left disk pick =
    let first = disk.first.items in
    let changes = reverse disk.changes.items in
    one_of (pick == 0) (pick == 1) (IsLeft first changes) (kept_of first changes) disk.bytes.items (marked_of (pick - 2) first changes)
    (kept_is_left first changes)
    (subst (λ (c : List ℕ). IsLeft first changes c) (sym disk.fits.read) (read_is_left first changes))
    (marked_is_left (pick - 2) first changes)

last_of : (a b : Bool) (x y z : List ℕ) → a ≡ false → b ≡ false → z ≡ (if a then x else if b then y else z)
last_of true b x y z not_a not_b = absurd (cc not_a)
last_of false true x y z not_a not_b = absurd (cc not_b)
last_of false false x y z not_a not_b = refl

-- the pick of a disk whose unsynced bytes are marked
pub picked_marked : (disk : MemoryDisk) (pick : ℕ) → (pick == 0) ≡ false → (pick == 1) ≡ false → marked_after (pick - 2) disk.kept.items (drop disk.synced disk.changes.items) ≡ picked disk pick
picked_marked disk pick not_0 not_1 =
    let first = disk.first.items in
    let changes = reverse disk.changes.items in
    marked-since (pick - 2) first disk.changes.items disk.bytes.items disk.kept.items disk.synced disk.fits
    ∙ last_of (pick == 0) (pick == 1) (kept_of first changes) disk.bytes.items (marked_of (pick - 2) first changes) not_0 not_1
