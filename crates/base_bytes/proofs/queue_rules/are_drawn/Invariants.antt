use Rattle.std.proofs.Common.{◌≤◌}
use Rattle.std.specs.List.{AllWithin}
use Rattle.base_bytes.proofs.queue_rules.are_drawn.Given as goal

abbrev pub invariant-items : goal.invariant-items
invariant-items g l = AllWithin (λ item. (1 ≤ g.T.Queued.number_of item) × (g.T.Queued.number_of item ≤ l.number)) l.items 0 l.item-index
