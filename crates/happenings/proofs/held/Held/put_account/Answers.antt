use Rattle.std.proofs.Common.{refl}
use Rattle.happenings.proofs.Putting.{account_named}
use Rattle.happenings.proofs.held.Held.put_account.Goals as goal

pub returns-clause-named : goal.returns-clause-named
returns-clause-named c =
    account_named c.args.self.now (record { accounts = c.insert.new.self; planets = c.args.self.now.planets }) c.args.cell c.in_ok-insert.ensures.updates refl
