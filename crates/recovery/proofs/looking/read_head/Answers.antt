use Rattle.recovery.proofs.Chains.{looks-read, looks-sync, looks-then}
use Rattle.recovery.proofs.looking.read_head.Goals as goal

pub returns-in-Some-clause-looks : goal.returns-in-Some-clause-looks
returns-in-Some-clause-looks g c =
    looks-then g.D.Disk.story c.args.disk.now c.sync.new.self c.front.new.disk g.met.D.Disk.laws
    (looks-sync g.D.Disk.story c.args.disk.now c.sync.new.self c.sync.result g.met.D.Disk.laws c.sync.ensures.images c.sync.ensures.time)
    (looks-read g.D.Disk.story c.sync.new.self c.front.new.disk g.met.D.Disk.laws c.front.ensures.images c.front.ensures.time)
