use Rattle.std.proofs.Common.{subst, sym}
use Rattle.account_cell.proofs.Queues.{caps_fresh}
use Rattle.account_cell.specs.Bounds.{AreWithinCaps}
use Rattle.happenings.proofs.tests.account.Goals as goal

pub invariant_of-result-clause-within_levels : goal.invariant_of-result-clause-within_levels
invariant_of-result-clause-within_levels c = subst (AreWithinCaps _) (sym c.new.ensures.items) caps_fresh
