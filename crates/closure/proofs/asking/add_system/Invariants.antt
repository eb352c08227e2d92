use Rattle.closure.specs.Naming.{AddsListed}
use Rattle.closure.proofs.Naming.{before}
use Rattle.closure.proofs.asking.add_system.Given as goal

abbrev pub invariant-positions : goal.invariant-positions
invariant-positions l = AddsListed l.places (before l.system l.p) l.initial.ids l.ids
