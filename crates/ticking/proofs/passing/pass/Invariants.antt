-- The seconds so far have passed.
use Rattle.ticking.specs.Standing.{Pass}
use Rattle.ticking.proofs.passing.pass.Given as goal

abbrev pub invariant-seconds : goal.invariant-seconds
invariant-seconds l = Pass l.rules l.second l.cells l.now l.passed
