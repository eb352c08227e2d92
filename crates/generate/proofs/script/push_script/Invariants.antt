-- The lines so far have been written and spell calls, the next turn comes, and no reading has been able to rise by more than 119 a line.
use Rattle.std.proofs.Common.{◌≡◌, ◌++◌, ◌≤◌, ◌*◌, ℕ, List}
use Rattle.generate.specs.Calls.{AreCalls}
use Rattle.generate.specs.Generated.{script}
use Rattle.generate.specs.Turns.{turn_after}
use Rattle.generate.specs.declared.script.Turn.{Turn}
use Rattle.generate.proofs.script.push_script.Given as goal

pub record Written (seed before : ℕ) (first out : List ℕ) (turn : Turn) : Type 0 where
  pub lines : out ≡ first ++ script seed before
  pub stands : turn ≡ turn_after seed before
  pub calls : AreCalls seed before
  pub early : turn.reading ≤ 119 * before

abbrev pub invariant-lines : goal.invariant-lines
invariant-lines l = Written l.fn.seed l.before l.initial.out l.out l.turn
