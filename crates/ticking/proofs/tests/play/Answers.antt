use Rattle.std.proofs.Common.{[]}
use Rattle.base_bytes.specs.Base.{universe_of}
use Rattle.ticking.proofs.Samples.{base_last, last_some}
use Rattle.ticking.proofs.tests.play.Goals as goal

pub lines-init : goal.lines-init
lines-init g c = record {
  slow = base_last c.in_ok-base.base c.in_ok-slow.slow c.in_ok-slow.ensures.stands c.in_ok-slow.ensures.moment;
  lazy = (universe_of c.in_ok-base.base, [], c.in_ok-lazy.ensures);
}

pub tick_to-requires-clause-stands : goal.tick_to-requires-clause-stands
tick_to-requires-clause-stands g c = last_some c.lines.slow c.lines.invariant.slow
