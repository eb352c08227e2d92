use Rattle.std.proofs.Common.{arith, refl}
use Rattle.account_cell.proofs.Starts.{numbers}
use Rattle.account_cell.proofs.account.Account.number_last_research.Goals as goal

pub returns-clause-research : goal.returns-clause-research
returns-clause-research c =
    numbers c.args.number c.args.self.now.player c.args.self.now.research.items _ c.index-item.result.now _ (omega arith) c.index-item.ensures refl
