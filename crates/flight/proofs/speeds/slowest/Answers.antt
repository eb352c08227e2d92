use Rattle.std.proofs.Common.{arith}
use Rattle.catalog.specs.declared.kind.Kind.TheVariants.{MetalMine}
use Rattle.catalog.specs.declared.ships.TheConstants.{SHIPS}
use Rattle.flight.proofs.Slowest.{present_end, present_there, slowest_step}
use Rattle.flight.proofs.speeds.slowest.Goals as goal

pub ships-preserved : goal.ships-preserved
ships-preserved c =
    let i = c.ships.i in
    let counts = c.args.ships.now.n in
    let more = present_there SHIPS counts i MetalMine (omega arith) (omega arith) c.if-count-eq0.false in
    slowest_step c.args.t.now.n c.ships.slowest c.lower-slowest.result _ _ _ _ c.ship_speed.result more c.ship_speed.ensures c.lower-slowest.ensures c.ships.invariant

pub returns : goal.returns
returns c = rw (present_end SHIPS c.args.ships.now.n c.ships.i (omega arith)) at c.ships.invariant
