use Rattle.std.proofs.Common.{refl}
use Rattle.ticking.proofs.Answered.{stands-base}
use Rattle.ticking.proofs.universe.TickingUniverse.new.Goals as goal

pub returns-clause-stands : goal.returns-clause-stands
returns-clause-stands c = stands-base c.args.base.now c.in_ok-first.first _ c.in_ok-first.ensures refl refl refl refl refl
