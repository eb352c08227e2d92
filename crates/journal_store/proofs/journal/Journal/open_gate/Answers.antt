use Rattle.std.proofs.Common.{refl, arith}
use Rattle.journal_store.proofs.Leading.{can_write, gate-failed, gate-opened}
use Rattle.journal_store.proofs.journal.Journal.open_gate.Goals as goal

pub returns-in_err-write_and_sync-clause-leads : goal.returns-in_err-write_and_sync-clause-leads
returns-in_err-write_and_sync-clause-leads g c told =
    let since = c.write_and_sync.ensures.since told in (
      since.0,
      λ front drawn stands. gate-failed g.D.Disk.story front drawn c.args.self.now c.args.self.now c.args.disk.now c.write_and_sync.new.disk c.args.count stands g.met.D.Disk.laws told refl refl refl since.1 c.requires.staged,
    )

pub returns-clause-leads : goal.returns-clause-leads
returns-clause-leads g c told =
    let since = c.write_and_sync.ensures.since told in (
      since.0,
      λ front drawn stands.
          gate-opened g.D.Disk.story front drawn c.args.self.now c.settle.new.self c.args.disk.now c.write_and_sync.new.disk c.args.count stands g.met.D.Disk.laws since.0
          c.settle.ensures.settles.pending
          c.settle.ensures.end
          c.settle.ensures.closed
          since.1
          c.requires.staged
          (c.in_ok-write_and_sync.ensures.synced told).1,
    )

pub write_and_sync-requires : goal.write_and_sync-requires
write_and_sync-requires g c told =
    let long = can_write g.D.Disk.story c.args.self.now c.args.disk.now g.met.D.Disk.laws told (c.requires.stands told) in
    omega (arith, long)
