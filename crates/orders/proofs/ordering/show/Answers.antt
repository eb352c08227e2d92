use Rattle.std.proofs.Common.{refl}
use Rattle.orders.proofs.Granted.{shown}
use Rattle.orders.proofs.ordering.show.Goals as goal

pub returns-clause-shown : goal.returns-clause-shown
returns-clause-shown c = λ moment account sight seen. shown sight c.args.rules.now moment account c.args.planet.now _ seen refl c.in_ok-body.ensures
