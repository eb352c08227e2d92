use Rattle.std.proofs.Common.{rules, ◌≡◌, true}
use Rattle.std.proofs.lemmas.List.Sorted.{answers_always}
use Rattle.base_ids.specs.Order.{player_before}
use Rattle.account_cell.specs.declared.account.Account.{Account}
use Rattle.base_ids.proofs.Ordering.{players_ordered}
use Rattle.base_bytes.proofs.Neighbours.{rises-answer}
use Rattle.base_bytes.proofs.rising.accounts_rise.Goals as goal

pub returns : goal.returns
returns c =
    let before = λ (a b : Account). player_before a.player b.player in
    let through = λ (a b d : Account). players_ordered.transitive a.player b.player d.player in
    rises-answer before through c.args.accounts.now c.is_sorted_by.result (c.is_sorted_by.ensures.cases before (answers_always _ _ _ (λ f a r g called. search rules)))
