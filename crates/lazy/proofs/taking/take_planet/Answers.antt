use Rattle.lazy.proofs.Taken.{planet_there}
use Rattle.lazy.proofs.taking.take_planet.Goals as goal

pub returns : goal.returns
returns c =
    planet_there c.args.cells.now c.args.named c.in-Some.at c.in-Some-planet.cell.now c.in_ok-copy.field-0 c.in_ok-copy-2.field-0 c.requires c.in-Some.is c.in-Some-planet.ensures
    c.in_ok-copy.ensures c.in_ok-copy-2.ensures
