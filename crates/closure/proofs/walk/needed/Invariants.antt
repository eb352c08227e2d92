use Rattle.std.specs.Prelude.{take}
use Rattle.closure.proofs.Fewer.{left}
use Rattle.closure.proofs.Walked.{IsWalked}
use Rattle.closure.proofs.walk.needed.Given as goal

abbrev pub invariant-walk : goal.invariant-walk
invariant-walk g l = IsWalked (g.L.CellLook.sees l.look) l.asked l.moment l.found l.place

abbrev pub decreases-walk : goal.decreases-walk
decreases-walk g l = left (g.L.CellLook.names l.look) (take l.place l.found)
