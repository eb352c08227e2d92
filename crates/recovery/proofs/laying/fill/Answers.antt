use Rattle.std.proofs.Common.{length}
use Rattle.recovery.proofs.Lays.{cuts-since, fills-now, fills-since}
use Rattle.recovery.proofs.laying.fill.Goals as goal

pub returns-in_err-cut-clause-since : goal.returns-in_err-cut-clause-since
returns-in_err-cut-clause-since g c = cuts-since g.D.Disk.story c.args.disk.now c.cut.new.self c.cut.result g.met.D.Disk.laws c.requires c.cut.ensures.images c.cut.ensures.time

pub returns-clause-since : goal.returns-clause-since
returns-clause-since g c =
    fills-since g.D.Disk.story c.args.disk.now c.cut.new.self c.write_and_sync.new.disk (length c.args.behind.now) g.met.D.Disk.laws
    (cuts-since g.D.Disk.story c.args.disk.now c.cut.new.self c.cut.result g.met.D.Disk.laws c.requires c.cut.ensures.images c.cut.ensures.time)
    c.write_and_sync.ensures.since

pub returns-clause-filled : goal.returns-clause-filled
returns-clause-filled g c told =
    let synced = c.write_and_sync.ensures.synced told in
    let cut = c.in_ok-cut.ensures.cut synced.0 in (
      cut.0,
      fills-now g.D.Disk.story c.args.disk.now c.cut.new.self c.write_and_sync.new.disk c.write_and_sync.result c.args.behind.now g.met.D.Disk.laws cut.0 (c.requires cut.0) cut.1 synced.1,
    )
