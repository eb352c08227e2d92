use Rattle.std.proofs.Common.{take, true}
use Rattle.std.specs.List.{flat_map}
use Rattle.account_cell.specs.Account.{research_of}
use Rattle.base_bytes.specs.Counting.{Meets}
use Rattle.base_bytes.proofs.distinct.Met.meet_accounts.Given as goal

abbrev pub invariant-accounts : goal.invariant-accounts
invariant-accounts l = Meets (flat_map research_of (take l.account-index l.accounts)) l.fn.self l.self true
