use Rattle.std.proofs.Common.{◌≤◌}
use Rattle.fronts.specs.Pair.{HasCalled}
use Rattle.fronts.proofs.demonstration.rounds.Given as goal

abbrev pub invariant-rounds : goal.invariant-rounds
invariant-rounds g l = record { called : HasCalled l.sent l.initial.pass l.pass; within : l.sent ≤ l.reading }
