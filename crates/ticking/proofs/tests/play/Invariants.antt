-- Both universes stand for some history.
use Rattle.lazy.specs.Keeping.{KeepsSome}
use Rattle.ticking.specs.Asking.{StandsAtLast}
use Rattle.ticking.proofs.tests.play.Given as goal

abbrev pub invariant-lines : goal.invariant-lines
invariant-lines g l = record { slow : StandsAtLast l.slow; lazy : KeepsSome l.lazy }

abbrev pub invariant-planets : goal.invariant-planets
invariant-planets g l = KeepsSome l.lazy
