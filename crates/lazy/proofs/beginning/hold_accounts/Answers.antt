use Rattle.lazy.proofs.Filling.{accounts-more}
use Rattle.lazy.proofs.beginning.hold_accounts.Goals as goal

pub accounts-preserved : goal.accounts-preserved
accounts-preserved c =
    let below = rw c.deref-account-items.ensures.value at c.accounts-test.true in
    let is = rw c.deref-account-items.ensures.value at c.account-item.is in
    accounts-more c.args.base.now c.accounts.cells c.put_account.new.self c.accounts.account-index c.account-item.result c.in_ok-copy.field-0 c.new.result c.requires.sound below is
    c.in_ok-copy.ensures c.new.ensures c.accounts.invariant c.in_ok-put_account.ensures.puts c.in_ok-put_account.ensures.named
