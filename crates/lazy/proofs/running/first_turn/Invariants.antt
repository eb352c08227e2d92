-- The first second of the cells so far; with those that are left it is that of all.
use Rattle.std.proofs.Common.{◌≡◌, ◌≤◌, drop}
use Rattle.lazy.specs.Running.{first_turn}
use Rattle.lazy.proofs.running.first_turn.Given as goal

abbrev pub invariant-names : goal.invariant-names
invariant-names l = record { value : first_turn l.cells l.first (drop l.name-index l.names) ≡ first_turn l.cells l.limit l.names; within : l.first ≤ l.limit }
