use Rattle.orders.proofs.Burning.{fuel_within}
use Rattle.orders.proofs.errand.Errand.fuel.Goals as goal

pub returns-clause-to : goal.returns-clause-to
returns-clause-to c =
    fuel_within c.args.account.now.techs.n c.args.self.now.ships.n c.distance.result c.args.self.now.setting.p c.fuel.result c.fuel.ensures.value c.distance.ensures.to
    c.args.self.now.setting.to c.args.self.now.ships.kinds c.args.self.now.ships.within
