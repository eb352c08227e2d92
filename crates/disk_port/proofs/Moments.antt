-- How what holds of every image goes on from call to call.
use Rattle.std.proofs.Common.{◌≡◌, inl, inr, ⊎_elim, ℕ, List, Result, Ok, arith}
use Rattle.disk_port.specs.Story.{Story, Lawful}
use Rattle.disk_port.specs.Disk.{Rests, Tears, Settles, Passes, Elapses}
use Rattle.disk_port.specs.Moments.{EachNow, EachSince}

module _ {D : Type 0} (story : Story D) where
  -- a call that only looks keeps what holds of each image
  pub rests-now : (old new : D) (P : List ℕ → Type 0) → Rests story old new → EachNow story old P → EachNow story new P
  rests-now old new P rests each = λ c left. each c (rests.none_added c left)

  -- and so does a sync
  pub settles-now : {T E : Type 0} (old new : D) (result : Result T E) (P : List ℕ → Type 0) → Settles story old new result → EachNow story old P → EachNow story new P
  settles-now old new result P settles each = λ c left. each c (settles.none_added c left)

  -- which leaves nothing but what a read gives, if it succeeds
  pub settled-now : {T E : Type 0} (old new : D) (value : T) → Settles story {E = E} old new (Ok value) → EachNow story new (λ c. c ≡ story.seen new)
  settled-now old new value settles = settles.settled

  -- what may be left of each image by a call that tears it
  pub tears-now : {T E : Type 0} (may : List ℕ → List ℕ → Type 0) (old new : D) (result : Result T E) (P Q : List ℕ → Type 0) → Tears story may old new result → EachNow story old P
      → ((d c : List ℕ) → P d → may d c → Q c) → EachNow story new Q
  tears-now may old new result P Q tears each leads = λ c left. let from = tears.no_other c left in leads from.0 c (each from.0 from.1) from.2

  -- what a read gives has what each image has
  pub seen-now : (disk : D) (P : List ℕ → Type 0) → Lawful story → story.tells disk → EachNow story disk P → P (story.seen disk)
  seen-now disk P lawful told each = each (story.seen disk) (lawful.reads disk told)

  pub passes-refl : (disk : D) → Passes story disk disk
  passes-refl disk = record { later = omega arith; kept = λ t c le left. left }

  pub passes-trans : (a b c : D) → Passes story a b → Passes story b c → Passes story a c
  passes-trans a b c first second = record {
    later = omega (arith, first.later, second.later);
    kept = λ t image le left. second.kept t image (omega (arith, le, first.later)) (first.kept t image le left);
  }

  -- before the first call
  pub started : (disk : D) (P : List ℕ → Type 0) → Lawful story → story.tells disk → EachNow story disk P → EachSince story disk disk P
  started disk P lawful told each = record {
    passes = passes-refl disk;
    each = λ c left. each c (lawful.only_now disk c told left);
    no_other = λ t c le left. inl left;
  }

  -- one call more, after which a crash leaves nothing but what has P
  pub goes_on : (old mid new : D) (P : List ℕ → Type 0) → EachSince story old mid P → Elapses story mid new → EachNow story new P → EachSince story old new P
  goes_on old mid new P so_far time here = record {
    passes = passes-trans old mid new so_far.passes time.passes;
    each = λ c left. ⊎_elim (so_far.each c) (here c) (time.no_other (story.moment old) c so_far.passes.later left);
    no_other = λ t c le left. ⊎_elim (so_far.no_other t c le) (λ now. inr (here c now)) (time.no_other t c (omega (arith, le, so_far.passes.later)) left);
  }

  -- one run after another
  pub joined : (old mid new : D) (P : List ℕ → Type 0) → EachSince story old mid P → EachSince story mid new P → EachSince story old new P
  joined old mid new P first second = record {
    passes = passes-trans old mid new first.passes second.passes;
    each = λ c left. ⊎_elim (first.each c) (λ p. p) (second.no_other (story.moment old) c first.passes.later left);
    no_other = λ t c le left. ⊎_elim (first.no_other t c le) (λ p. inr p) (second.no_other t c (omega (arith, le, first.passes.later)) left);
  }

  -- what has P has Q
  pub weakened : (old new : D) (P Q : List ℕ → Type 0) → EachSince story old new P → ((c : List ℕ) → P c → Q c) → EachSince story old new Q
  weakened old new P Q each leads = record {
    passes = each.passes;
    each = λ c left. leads c (each.each c left);
    no_other = λ t c le left. ⊎_elim (λ before. inl before) (λ p. inr (leads c p)) (each.no_other t c le left);
  }

  -- at the end of a run each image has what each image in the run has
  pub now-since : (old new : D) (P : List ℕ → Type 0) → Lawful story → story.tells new → EachSince story old new P → EachNow story new P
  now-since old new P lawful told each = λ c left. each.each c (lawful.now new (story.moment old) c told each.passes.later left)
