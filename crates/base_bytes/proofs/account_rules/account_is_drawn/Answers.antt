use Rattle.std.proofs.Common.{◌≤◌, All, subst, sym}
use Rattle.account_cell.specs.declared.research_item.ResearchItem.{ResearchItem}
use Rattle.base_bytes.proofs.AccountChecks.{drawn_research, research_drawn}
use Rattle.base_bytes.proofs.account_rules.account_is_drawn.Goals as goal

pub returns : goal.returns
returns c =
    let account = c.args.account.now in
    let drawn = λ (item : ResearchItem). (1 ≤ item.number) × (item.number ≤ c.args.number) in (
      λ yes_true. research_drawn c.args.number account.player account.research.items (subst (All drawn) c.deref.ensures.value (c.are_drawn.ensures.0 yes_true)),
      λ all. c.are_drawn.ensures.1 (subst (All drawn) (sym c.deref.ensures.value) (drawn_research c.args.number account.player account.research.items all)),
    )
