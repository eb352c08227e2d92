use Rattle.std.specs.List.{AllWithin}
use Rattle.base_bytes.specs.Kept.{AccountKeeps}
use Rattle.base_bytes.proofs.account_rules.all_accounts_keep.Given as goal

abbrev pub invariant-accounts : goal.invariant-accounts
invariant-accounts l = AllWithin (AccountKeeps l.moment l.number) l.accounts 0 l.account-index
