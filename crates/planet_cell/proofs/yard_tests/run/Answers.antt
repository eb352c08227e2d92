use Rattle.std.proofs.Common.{arith}
use Rattle.planet_cell.proofs.Yards.{ahead_later, ahead_none}
use Rattle.planet_cell.proofs.yard_tests.run.Goals as goal

pub run_yard-requires-clause-ahead : goal.run_yard-requires-clause-ahead
run_yard-requires-clause-ahead g c = ahead_none c.args.from c.args.planet.now.at c.args.planet.now.yard.items c.in_default.ensures

pub run_yard-requires-2-clause-ahead : goal.run_yard-requires-2-clause-ahead
run_yard-requires-2-clause-ahead g c =
    ahead_later c.args.from c.args.planet.now.at c.args.planet.now.yard.items c.in-Some.first c.in-Some.ensures (omega arith)
