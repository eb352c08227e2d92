-- Some history is kept.
use Rattle.lazy.specs.Keeping.{KeepsSome}
use Rattle.lazy.proofs.tests.a_planet_is_the_same_however_often_it_was_asked_for.Given as goal

abbrev pub invariant-readings : goal.invariant-readings
invariant-readings g l = KeepsSome l.universe
