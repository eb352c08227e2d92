use Rattle.std.proofs.Common.{◌≡◌, ◌<◌, List, subst, sym}
use Rattle.std.specs.Prelude.{Some, slice_get}
use Rattle.account_cell.specs.Account.{research_item}
use Rattle.account_cell.specs.declared.research_item.ResearchItem.{ResearchItem}
use Rattle.base_bytes.proofs.Checks.{first_runs, runs_from_first}
use Rattle.base_bytes.proofs.account_rules.account_runs_after.Goals as goal

pub returns : goal.returns
returns c =
    let queue = c.args.account.now.research.items in
    let item = research_item c.args.account.now.player in
    let runs = λ (items : List ResearchItem). (x : ResearchItem) → Some x ≡ slice_get items 0 → c.args.moment < x.second in (
      λ yes_true. runs_from_first item c.args.moment queue (subst runs c.deref.ensures.value (c.runs_after.ensures.0 yes_true)),
      λ after. c.runs_after.ensures.1 (subst runs (sym c.deref.ensures.value) (first_runs item c.args.moment queue after)),
    )
