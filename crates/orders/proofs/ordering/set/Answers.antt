use Rattle.std.proofs.Common.{refl}
use Rattle.orders.proofs.Granted.{set}
use Rattle.orders.proofs.ordering.set.Goals as goal

pub returns-clause-set : goal.returns-clause-set
returns-clause-set c =
    λ rules moment account sight seen.
    set sight rules moment account c.args.work.kind c.args.tenths.n c.args.planet.now c.set_tenths.new.self _ seen refl c.new.ensures
    c.set_tenths.ensures.fields c.set_tenths.ensures.buildings c.set_tenths.ensures.yard c.set_tenths.ensures.at
