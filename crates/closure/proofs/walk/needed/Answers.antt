use Rattle.std.proofs.Common.{arith}
use Rattle.closure.proofs.Walked.{walk_falls, walk_lost, walk_more}
use Rattle.closure.proofs.walk.needed.Goals as goal

-- the cell isn't held
pub returns-in_default : goal.returns-in_default
returns-in_default g c =
    rw (c.in_ok-push.ensures.ok, c.new-missing.ensures)
    (walk_lost _ _ _ _ _ _ c.walk.invariant (omega arith) (rw c.as_slice-in-walk.ensures at c.index-as_slice-place.is) (rw c.in_default.is at c.in_ok-brought.ensures))

-- the walk goes on
pub walk-preserved : goal.walk-preserved
walk-preserved g c =
    walk_more _ _ _ _ _ _ c.walk.invariant (omega arith) (rw c.as_slice-in-walk.ensures at c.index-as_slice-place.is) _ _ (rw c.in-Some.is at c.in_ok-brought.ensures)
    (rw c.as_slice-in-walk-2.ensures at c.in_ok-found-2.ensures)

-- and comes to an end
pub walk-smaller : goal.walk-smaller
walk-smaller g c =
    walk_falls _ _ _ _ _ _ c.walk.invariant (omega arith) (rw c.as_slice-in-walk.ensures at c.index-as_slice-place.is) _ _ _ (g.met.L.CellLook.named c.args.look.now) (rw c.in-Some.is at c.in_ok-brought.ensures)
    (rw c.as_slice-in-walk-2.ensures at c.in_ok-found-2.ensures)
