use Rattle.fronts.proofs.Pairs.{account_is}
use Rattle.fronts.proofs.demonstration.is_account.Goals as goal

pub returns-in-Account : goal.returns-in-Account
returns-in-Account c = account_is c.in-Account.other c.args.player c.args.cell c.in-Account.is
