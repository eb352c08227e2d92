use Rattle.planet_cell.proofs.Yards.{ahead_later}
use Rattle.planet_cell.proofs.planet.Planet.due_batch.Goals as goal

pub returns-then-until-batch : goal.returns-then-until-batch
returns-then-until-batch c =
    ahead_later c.args.until c.args.self.now.at c.args.self.now.yard.items c.in-Some.batch c.in-Some.ensures c.if-until-batch.true

pub returns : goal.returns
returns c = record { first = c.in-Some.ensures; due = c.if-until-batch.false }
