-- What a write and a sync lead to.
use Rattle.std.proofs.Common.{◌≡◌, ℕ, List, Result, Ok, Err, OnOk, ◌∙◌}
use Rattle.disk_port.specs.Contents.{Torn}
use Rattle.disk_port.specs.Disk.{Tears, Settles, Elapses}
use Rattle.disk_port.specs.HistoryLaws.{torn_not}
use Rattle.disk_port.specs.Moments.{EachNow, EachSince, TornFrom}
use Rattle.disk_port.specs.Story.{Story, Lawful, Told}
use Rattle.disk_port.proofs.Moments.{started, goes_on, now-since, settles-now}

module _ {D : Type 0} (story : Story D) where
  -- after the write
  pub since_write : {T E : Type 0} (old mid : D) (at n : ℕ) (result : Result T E) → Lawful story → Told story old mid (Tears story (Torn at n) old mid result) → Told story old mid (Elapses story old mid)
      → Told story old mid (EachSince story old mid (TornFrom story old at n))
  since_write old mid at n result lawful tears time told =
      let before = (tears told).0 in (
        before,
        goes_on story old old mid (TornFrom story old at n) (started story old (TornFrom story old at n) lawful before (λ c left. (c, left, torn_not at n c))) (time told).1 (λ c left. (tears told).1.no_other c left),
      )

  -- and after the sync
  pub since_sync : {T E : Type 0} (old mid new : D) (at n : ℕ) (result : Result T E) → Lawful story → Told story old mid (EachSince story old mid (TornFrom story old at n)) → Told story mid new (Settles story mid new result)
      → Told story mid new (Elapses story mid new) → Told story old new (EachSince story old new (TornFrom story old at n))
  since_sync old mid new at n result lawful so_far settles time told =
      let between = (settles told).0 in
      let since = (so_far between).1 in
      let P : List ℕ → Type 0 = TornFrom story old at n in
      ((so_far between).0, goes_on story old mid new P since (time told).1 (settles-now story mid new result P (settles told).1 (now-since story old mid P lawful between since)))

  written_by : {T E : Type 0} (mid new : D) (result : Result T E) (content : List ℕ) → Settles story mid new result → story.seen mid ≡ content → OnOk result (EachNow story new (λ c. c ≡ content))
  written_by mid new (Ok value) content settles is = λ c left. settles.settled c left ∙ settles.seen ∙ is
  written_by mid new (Err error) content settles is = tt

  pub synced_by : {T E : Type 0} (old mid new : D) (content : List ℕ) (result : Result T E) → Told story old mid (story.seen mid ≡ content) → Told story mid new (Settles story mid new result)
      → Told story old new (OnOk result (EachNow story new (λ c. c ≡ content)))
  synced_by old mid new content result is settles told =
      let between = (settles told).0 in
      ((is between).0, written_by mid new result content (settles told).1 (is between).1)
