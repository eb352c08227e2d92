use Rattle.std.proofs.Common.{arith}
use Rattle.orders.proofs.Burning.{seconds_within}
use Rattle.orders.proofs.errand.Errand.seconds.Goals as goal

pub returns-clause-to : goal.returns-clause-to
returns-clause-to c =
    seconds_within c.distance.result c.speed-speed.result c.args.self.now.setting.p c.args.rules.now.speed c.seconds.result c.seconds.ensures.bounds c.distance.ensures.to
    (omega arith) c.args.self.now.setting.from c.args.rules.now.speed_from
