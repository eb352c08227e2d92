use Rattle.account_cell.proofs.Spans.{next_within}
use Rattle.account_cell.specs.Account.{account_fields}
use Rattle.account_cell.proofs.account.Account.next_seconds.Goals as goal

pub returns-clause-within : goal.returns-clause-within
returns-clause-within c =
    next_within c.args.speed c.args.lab c.seconds.result (account_fields c.args.self.now) c.args.technology.kind _ c.next_price.ensures c.seconds.ensures.value c.args.technology.class c.requires.level c.requires.speed_from
