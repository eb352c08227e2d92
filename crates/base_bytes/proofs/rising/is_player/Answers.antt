use Rattle.std.proofs.Common.{rules, map}
use Rattle.account_cell.specs.declared.account.Account.{Account}
use Rattle.base_bytes.proofs.Naming.{named-answer}
use Rattle.std.proofs.lemmas.List.Sorted.{answers_always}
use Rattle.base_bytes.proofs.rising.is_player.Goals as goal

pub returns : goal.returns
returns c =
    let facts = c.binary_search_by_key.ensures in
    named-answer c.args.accounts.now c.args.player c.binary_search_by_key.result c.is_ok.result c.requires facts.bound
    (facts.position (λ (a : Account). a.player) (answers_always _ _ _ (λ f a r g called. search rules))) c.is_ok.ensures.value
