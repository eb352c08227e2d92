-- The lines of the kinds so far have been written.
use Rattle.std.proofs.Common.{◌≡◌, ◌++◌, take}
use Rattle.generate.specs.Founded.{kind_lines}
use Rattle.generate.proofs.head.push_kinds.Given as goal

abbrev pub invariant-kinds : goal.invariant-kinds
invariant-kinds l = l.out ≡ l.initial.out ++ kind_lines l.start (take l.kind-index l.kinds)
