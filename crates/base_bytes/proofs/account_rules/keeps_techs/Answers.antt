use Rattle.std.proofs.Common.{◌≡◌, ◌+◌, All, List, arith, drop, rules, subst, sym}
use Rattle.std.proofs.lemmas.Bool.Decides.{nat_tests}
use Rattle.account_cell.specs.declared.research_item.ResearchItem.{ResearchItem}
use Rattle.base_bytes.proofs.AccountChecks.{kept_techs, techs_kept}
use Rattle.catalog.specs.Technologies.{level_in}
use Rattle.base_bytes.proofs.account_rules.keeps_techs.Goals as goal

pub returns-then-from : goal.returns-then-from
returns-then-from c =
    let account = c.args.account.now in
    let first = c.in-Some.first in
    let idle = λ (items : List ResearchItem). All (λ (item : ResearchItem). (item.level ≡ 0) × (item.second ≡ 0)) (drop 1 items) in
    let up : first.level ≡ level_in account.techs.n first.kind.kind + 1 = search rules in (
      λ yes_true. techs_kept account first c.in-Some.ensures.first up (subst idle c.deref.ensures.value (c.others_wait.ensures.0 yes_true)),
      λ kept. c.others_wait.ensures.1 (subst idle (sym c.deref.ensures.value) (kept_techs account first c.in-Some.ensures.first kept).1),
    )

pub returns-else-from : goal.returns-else-from
returns-else-from c =
    let account = c.args.account.now in (
      λ yes_true. absurd (grind (arith, nat_tests)),
      λ kept. let up = (kept_techs account c.in-Some.first c.in-Some.ensures.first kept).0 in grind (arith, nat_tests),
    )
