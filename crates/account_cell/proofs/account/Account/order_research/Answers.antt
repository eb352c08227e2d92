use Rattle.std.proofs.Common.{◌+◌, ◌<◌, ℕ, subst}
use Rattle.account_cell.proofs.Counts.{queued_items}
use Rattle.account_cell.proofs.Queues.{caps_pushed}
use Rattle.catalog.specs.Levels.{level_cap_of}
use Rattle.catalog.specs.Technologies.{level_in}
use Rattle.account_cell.proofs.account.Account.order_research.Goals as goal

pub invariant_of-self-clause-within_levels : goal.invariant_of-self-clause-within_levels
invariant_of-self-clause-within_levels c =
    let kind = c.args.technology.kind in
    let levels = c.args.self.now.techs.n in
    let counted = queued_items kind c.args.self.now.player c.args.self.now.research.items in
    caps_pushed levels c.args.self.now.research.items c.push.new.self.items _ _ c.push.ensures.items c.args.self.now.within_levels
    (subst (λ (n : ℕ). level_in levels kind + n < level_cap_of kind) counted c.requires.order.level)
