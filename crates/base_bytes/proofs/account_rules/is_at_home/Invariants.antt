use Rattle.std.specs.List.{AllWithin, Contains}
use Rattle.account_cell.specs.declared.research_item.ResearchItem.{ResearchItem}
use Rattle.base_bytes.proofs.account_rules.is_at_home.Given as goal

abbrev pub invariant-items : goal.invariant-items
invariant-items l = AllWithin (λ (item : ResearchItem). Contains l.account.planets.items item.at) l.item-items 0 l.item-index
