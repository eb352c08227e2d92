use Rattle.std.proofs.Common.{not, nat_eq}
use Rattle.std.specs.Prelude.{slice_index}
use Rattle.recovery.specs.Laying.{IsClosedAs}
use Rattle.recovery.proofs.Gates.{closed-read}
use Rattle.recovery.proofs.Lays.{closed-told}
use Rattle.recovery.proofs.laying.is_closed.Goals as goal

pub returns-then-count-eq1-clause-closed : goal.returns-then-count-eq1-clause-closed
returns-then-count-eq1-clause-closed g c told =
    let story = g.D.Disk.story in
    let rests = c.read_at.ensures.images told in
    let count = c.in_ok-count.ensures.count told in
    let bytes = c.in_ok-count.ensures.bytes told in
    let settles = c.in_ok-sync.ensures.images rests.0 in (
      settles.0,
      closed-told story c.sync.new.self c.read_at.new.self (IsClosedAs (not (nat_eq (slice_index c.read_at.new.into 0) 1))) settles.1.settled rests.1
          (closed-read (story.seen c.sync.new.self) c.read_at.new.into c.in_ok-count.count c.if-count-eq1.true count.1 bytes.1),
    )
