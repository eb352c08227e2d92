use Rattle.std.proofs.Common.{arith, refl}
use Rattle.base_bytes.proofs.Checks.{one_more}
use Rattle.base_bytes.specs.Kept.{AccountKeeps}
use Rattle.base_bytes.proofs.account_rules.all_accounts_keep.Goals as goal

pub accounts-preserved : goal.accounts-preserved
accounts-preserved c =
    let below = c.accounts-test.true in
    one_more (AccountKeeps c.args.moment c.args.number) c.args.accounts.now c.accounts.account-index c.account-item.result (omega (arith, below)) c.account-item.is (c.if-not-account_keeps.ensures.0 refl) c.accounts.invariant
