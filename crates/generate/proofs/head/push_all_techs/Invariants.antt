-- The lines of the players so far have been written.
use Rattle.std.proofs.Common.{◌≡◌, ◌++◌}
use Rattle.generate.specs.Counting.{each}
use Rattle.generate.specs.Founded.{tech_lines}
use Rattle.generate.proofs.head.push_all_techs.Given as goal

abbrev pub invariant-players : goal.invariant-players
invariant-players l = l.out ≡ l.initial.out ++ each tech_lines l.before
