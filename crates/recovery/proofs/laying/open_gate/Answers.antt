use Rattle.recovery.proofs.Lays.{opens-ok, opens-since}
use Rattle.recovery.proofs.laying.open_gate.Goals as goal

pub returns-clause-since : goal.returns-clause-since
returns-clause-since g c told =
    let since = c.write_and_sync.ensures.since told in
    (since.0, λ bytes each. opens-since g.D.Disk.story c.args.disk.now c.write_and_sync.new.disk bytes each since.1)

pub returns-clause-opened : goal.returns-clause-opened
returns-clause-opened g c told =
    let synced = c.write_and_sync.ensures.synced told in
    (synced.0, opens-ok g.D.Disk.story c.args.disk.now c.write_and_sync.new.disk c.write_and_sync.result g.met.D.Disk.laws synced.0 synced.1)
