-- What only looks goes on from call to call.
use Rattle.std.proofs.Common.{◌≡◌, ℕ, List, Result, refl, ◌∙◌}
use Rattle.disk_port.specs.Disk.{Elapses, Rests, Settles}
use Rattle.disk_port.specs.Moments.{EachNow}
use Rattle.disk_port.specs.Story.{Lawful, Story, Told}
use Rattle.disk_port.proofs.Moments.{goes_on, joined, now-since, started, weakened}
use Rattle.recovery.specs.Looking.{Looks}

module _ {D : Type 0} (story : Story D) where
  -- no call was made
  pub looks-not : (disk : D) → Lawful story → Told story disk disk (Looks story disk disk)
  looks-not disk lawful told = (told, record { seen = refl; since = started story disk (story.leaves disk) lawful told (λ c left. left) })

  -- a call that adds no image
  looks-call : (old new : D) → Lawful story → story.tells old → story.seen new ≡ story.seen old → ((c : List ℕ) → story.leaves new c → story.leaves old c) → Elapses story old new → Looks story old new
  looks-call old new lawful told seen none_added time = record {
    seen = seen;
    since = goes_on story old old new (story.leaves old) (started story old (story.leaves old) lawful told (λ c left. left)) time none_added;
  }

  pub looks-read : (old new : D) → Lawful story → Told story old new (Rests story old new) → Told story old new (Elapses story old new) → Told story old new (Looks story old new)
  looks-read old new lawful rests time told =
      let here = rests told in
      (here.0, looks-call old new lawful here.0 here.1.seen here.1.none_added (time told).1)

  pub looks-sync : {T E : Type 0} (old new : D) (result : Result T E) → Lawful story → Told story old new (Settles story old new result) → Told story old new (Elapses story old new) → Told story old new (Looks story old new)
  looks-sync old new result lawful settles time told =
      let here = settles told in
      (here.0, looks-call old new lawful here.0 here.1.seen here.1.none_added (time told).1)

  -- calls after others
  pub looks-then : (old mid new : D) → Lawful story → Told story old mid (Looks story old mid) → Told story mid new (Looks story mid new) → Told story old new (Looks story old new)
  looks-then old mid new lawful first then told =
      let next = then told in
      let so_far = first next.0 in
      let was = now-since story old mid (story.leaves old) lawful next.0 so_far.1.since in (
        so_far.0,
        record {
          seen = next.1.seen ∙ so_far.1.seen;
          since = joined story old mid new (story.leaves old) so_far.1.since (weakened story mid new (story.leaves mid) (story.leaves old) next.1.since was);
        },
      )

  -- what each image has stays
  pub looks-now : (old new : D) (P : List ℕ → Type 0) → Lawful story → story.tells new → Looks story old new → EachNow story old P → EachNow story new P
  looks-now old new P lawful told looks each = λ c left. each c (now-since story old new (story.leaves old) lawful told looks.since c left)
