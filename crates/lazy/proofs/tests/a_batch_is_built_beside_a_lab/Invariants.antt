-- Some history is kept.
use Rattle.lazy.specs.Keeping.{KeepsSome}
use Rattle.lazy.proofs.tests.a_batch_is_built_beside_a_lab.Given as goal

abbrev pub invariant-levels : goal.invariant-levels
invariant-levels g l = KeepsSome l.universe
