use Rattle.std.proofs.Common.{ap}
use Rattle.fronts.specs.declared.view.View.{View}
use Rattle.fronts.proofs.Pairs.{hits_stay, pen_knows_all}
use Rattle.fronts.proofs.demonstration.take_cell.Goals as goal

pub returns-clause-same : goal.returns-clause-same
returns-clause-same g c = record { number = ap (λ (v : View). v.number) c.take.ensures.view; next = c.take.ensures.next }

pub returns-clause-front : goal.returns-clause-front
returns-clause-front g c = pen_knows_all g.O.Origin.start c.args.pass.now c.args.counter.note c.take.new.pass c.take.ensures.follows c.requires.pen

pub returns-clause-hits : goal.returns-clause-hits
returns-clause-hits g c =
    hits_stay g.O.Origin.start c.args.counter.cell c.args.counter.hits c.args.pass.now c.args.counter.note c.take.new.pass c.take.ensures.follows c.args.counter.named c.args.counter.stands
