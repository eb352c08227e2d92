-- The lines of the players so far have been written.
use Rattle.std.proofs.Common.{◌≡◌, ◌++◌}
use Rattle.generate.specs.Counting.{each}
use Rattle.generate.specs.Founded.{homes_lines}
use Rattle.generate.proofs.head.push_all_homes.Given as goal

abbrev pub invariant-players : goal.invariant-players
invariant-players l = l.out ≡ l.initial.out ++ each homes_lines l.before
