use Rattle.std.proofs.Common.{◌≡◌, ◌+◌, ◌-◌, List, ℕ, length, take, drop, refl, ap, ◌∙◌, arith}
use Rattle.std.proofs.lemmas.List.{take_rest}
use Rattle.disk_port.specs.Contents.{written}
use Rattle.disk_port.specs.Moments.{EachNow}
use Rattle.disk_port.specs.Story.{Story}
use Rattle.journal_store.proofs.Leading.{batch-failed, batch-staged, can_write}
use Rattle.journal_store.proofs.journal.Journal.write_batch.Goals as goal

-- what was written are the bytes behind what stands of the gate
as_written : {D : Type 0} (n m : ℕ) → n ≡ m → (room bytes : List ℕ) → room ≡ bytes → (story : Story D) (disk : D) (seen : List ℕ) (at : ℕ)
    → EachNow story disk (λ c. c ≡ written seen at (take (length room - n) (drop n room))) → EachNow story disk (λ c. c ≡ written seen at (drop m bytes))
as_written n m n_is room bytes room_is story disk seen at each = λ c left. each c left ∙ ap (written seen at) (take_rest room n ∙ ap (drop n) room_is ∙ ap (λ (k : ℕ). drop k bytes) n_is)

pub returns-in_err-write_and_sync-clause-leads : goal.returns-in_err-write_and_sync-clause-leads
returns-in_err-write_and_sync-clause-leads g c told =
    let since = c.write_and_sync.ensures.since told in (
      since.0,
      λ front drawn stands.
          batch-failed g.D.Disk.story front drawn c.args.self.now _ c.args.disk.now c.write_and_sync.new.disk (c.args.self.now.end + c.standing-standing.result) _ stands g.met.D.Disk.laws told refl refl refl
          since.1
          c.requires.unstaged
          (ap (λ n. c.args.self.now.end + n) c.standing-standing.ensures),
    )

pub returns-clause-leads : goal.returns-clause-leads
returns-clause-leads g c told =
    let since = c.write_and_sync.ensures.since told in (
      since.0,
      λ front drawn stands.
          batch-staged g.D.Disk.story front drawn c.args.self.now _ c.args.disk.now c.write_and_sync.new.disk (c.args.self.now.end + c.standing-standing.result) _ c.min-count.result stands g.met.D.Disk.laws since.0 refl refl refl
          since.1
          c.requires.unstaged
          (ap (λ n. c.args.self.now.end + n) c.standing-standing.ensures)
          (as_written c.standing-standing.result _ c.standing-standing.ensures _ _ (c.deref.ensures.value ∙ c.fill.ensures.bytes) g.D.Disk.story c.write_and_sync.new.disk _ _ (c.in_ok-write_and_sync.ensures.synced told).1),
    )

pub write_and_sync-requires : goal.write_and_sync-requires
write_and_sync-requires g c told =
    let long = can_write g.D.Disk.story c.args.self.now c.args.disk.now g.met.D.Disk.laws told (c.requires.stands told) in
    omega (arith, long, c.standing-standing.ensures)
