use Rattle.std.proofs.Common.{arith, subst, sym, refl}
use Rattle.account_cell.proofs.Queues.{caps_raised}
use Rattle.account_cell.specs.Bounds.{AreWithinCaps}
use Rattle.account_cell.proofs.account.Account.finish_research.Goals as goal

pub invariant_of-self-clause-within_levels : goal.invariant_of-self-clause-within_levels
invariant_of-self-clause-within_levels c =
    subst (AreWithinCaps _) (sym c.remove-done.ensures.items)
    (caps_raised c.args.self.now.techs.n c.args.self.now.research.items c.remove-done.result c.place_of.result _ c.args.self.now.within_levels c.remove-done.ensures.value (omega arith) c.place_of.ensures.value refl)
