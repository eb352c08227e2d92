use Rattle.std.proofs.Common.{Bool, subst}
use Rattle.disk_port.specs.Moments.{EachNow}
use Rattle.recovery.specs.Laying.{IsClosedAs}
use Rattle.recovery.proofs.Lays.{closes}
use Rattle.recovery.proofs.laying.shut.Goals as goal

pub returns-clause-since : goal.returns-clause-since
returns-clause-since g c =
    closes g.D.Disk.story c.args.disk.now c.is_closed.new.disk c.write_and_sync.new.disk g.met.D.Disk.laws c.is_closed.ensures.since
    (λ told.
    let closed = c.in_ok-is_closed.ensures.closed told in
    (closed.0, subst (λ (b : Bool). EachNow g.D.Disk.story c.is_closed.new.disk (IsClosedAs b)) c.if-branch.false closed.1))
    c.write_and_sync.ensures.since
