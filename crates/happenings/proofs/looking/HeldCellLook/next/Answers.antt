use Rattle.happenings.proofs.Brought.{account_brings, planet_brings}
use Rattle.happenings.proofs.looking.HeldCellLook.next.Goals as goal

pub returns-in_ok-brings-in-Some : goal.returns-in_ok-brings-in-Some
returns-in_ok-brings-in-Some c =
    account_brings c.args.self.now c.args.id c.in-Account.player c.in-Some.cell.now c.args.moment c.in_ok-brings-in-Some.field-0 c.in-Account.is c.in-Some.ensures c.in_ok-brings-in-Some.ensures

pub returns-in_ok-brings-in-Some-planet : goal.returns-in_ok-brings-in-Some-planet
returns-in_ok-brings-in-Some-planet c =
    planet_brings c.args.self.now c.args.id c.in-Planet.at c.in-Some-planet.cell.now c.args.moment c.in_ok-brings-in-Some-planet.field-0 c.in-Planet.is c.in-Some-planet.ensures c.in_ok-brings-in-Some-planet.ensures
