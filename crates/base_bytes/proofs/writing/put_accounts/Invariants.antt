use Rattle.std.proofs.Common.{◌≡◌, ◌++◌, take}
use Rattle.std.specs.List.{flat_map}
use Rattle.base_bytes.specs.Spelling.{account_bytes}
use Rattle.base_bytes.proofs.writing.put_accounts.Given as goal

abbrev pub invariant-accounts : goal.invariant-accounts
invariant-accounts l = l.out ≡ l.fn.out ++ flat_map account_bytes (take l.account-index l.accounts)
