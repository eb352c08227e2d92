use Rattle.std.proofs.Common.{length}
use Rattle.disk_port.specs.Contents.{written}
use Rattle.disk_port.proofs.Sureness.{since_write, since_sync, synced_by}
use Rattle.disk_port.proofs.synced.write_and_sync.Goals as goal

pub returns-in_err-write_at-clause-since : goal.returns-in_err-write_at-clause-since
returns-in_err-write_at-clause-since g c =
    since_write g.D.Disk.story c.args.disk.now c.write_at.new.self c.args.at (length c.args.bytes.now) c.write_at.result g.met.D.Disk.laws c.write_at.ensures.images c.write_at.ensures.time

pub returns-clause-since : goal.returns-clause-since
returns-clause-since g c =
    let story = g.D.Disk.story in
    let n = length c.args.bytes.now in
    since_sync story c.args.disk.now c.write_at.new.self c.sync.new.self c.args.at n c.sync.result g.met.D.Disk.laws
    (since_write story c.args.disk.now c.write_at.new.self c.args.at n c.write_at.result g.met.D.Disk.laws c.write_at.ensures.images c.write_at.ensures.time)
    c.sync.ensures.images
    c.sync.ensures.time

pub returns-clause-synced : goal.returns-clause-synced
returns-clause-synced g c =
    let story = g.D.Disk.story in
    synced_by story c.args.disk.now c.write_at.new.self c.sync.new.self (written (story.seen c.args.disk.now) c.args.at c.args.bytes.now) c.sync.result c.in_ok-write_at.ensures.written c.sync.ensures.images
