use Rattle.std.proofs.Common.{refl}
use Rattle.happenings.proofs.Putting.{planet_named}
use Rattle.happenings.proofs.held.Held.put_planet.Goals as goal

pub returns-clause-named : goal.returns-clause-named
returns-clause-named c =
    planet_named c.args.self.now (record { accounts = c.args.self.now.accounts; planets = c.insert.new.self }) c.args.cell c.in_ok-insert.ensures.updates refl
