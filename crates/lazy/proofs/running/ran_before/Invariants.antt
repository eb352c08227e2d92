-- The planets named so far whose yards run are held, each after its yard ran.
use Rattle.std.proofs.Common.{take}
use Rattle.happenings.specs.Held.{IsNamed, PicksFrom}
use Rattle.lazy.specs.Running.{ran_at}
use Rattle.lazy.proofs.running.ran_before.Given as goal

abbrev pub invariant-names : goal.invariant-names
invariant-names l = PicksFrom (ran_at l.rules l.limit l.cells) (take l.name-index l.names) l.ran × IsNamed l.ran
