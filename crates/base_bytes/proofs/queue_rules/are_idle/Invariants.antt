use Rattle.std.specs.List.{AllWithin}
use Rattle.base_bytes.proofs.queue_rules.are_idle.Given as goal

abbrev pub invariant-items : goal.invariant-items
invariant-items g l = AllWithin g.T.Queued.IsIdle l.items 0 l.item-index
