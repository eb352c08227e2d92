use Rattle.std.proofs.Common.{arith}
use Rattle.planet_cell.proofs.Totals.{begun_next, begun_none, fewer_next, fewer_none}
use Rattle.planet_cell.proofs.Yards.{begins_next}
use Rattle.planet_cell.specs.Planet.{fields_of}
use Rattle.planet_cell.proofs.planet.Planet.begin_next.Goals as goal

pub invariant_of-self-clause-within_units : goal.invariant_of-self-clause-within_units
invariant_of-self-clause-within_units c =
    let planet = c.args.self.now in
    omega (arith, planet.within_units, fewer_none planet.yard.items c.remove.new.self.items (omega arith) c.remove.ensures.items)

pub invariant_of-self-clause-first_begun : goal.invariant_of-self-clause-first_begun
invariant_of-self-clause-first_begun c = begun_none c.args.self.now.yard.items _ c.in_default.ensures c.remove.ensures.items

pub invariant_of-self-2-clause-within_units : goal.invariant_of-self-2-clause-within_units
invariant_of-self-2-clause-within_units c =
    let planet = c.args.self.now in
    omega (arith, planet.within_units, fewer_next planet.yard.items c.remove-2.new.self.items c.in-Some.next c.begun.result c.in-Some.ensures c.remove-2.ensures.items c.begun.ensures.left)

pub invariant_of-self-2-clause-first_begun : goal.invariant_of-self-2-clause-first_begun
invariant_of-self-2-clause-first_begun c =
    begun_next c.args.self.now.yard.items _ c.in-Some.next c.begun.result c.in-Some.ensures c.remove-2.ensures.items c.begun.ensures.some

pub returns-clause-yard : goal.returns-clause-yard
returns-clause-yard c =
    let planet = c.args.self.now in
    begins_next c.args.speed c.args.second (fields_of planet) planet.at planet.yard.items _ c.in-Some.next c.begun.result c.in-Some.ensures c.remove-2.ensures.items c.begun.ensures.item

pub returns-clause-fewer : goal.returns-clause-fewer
returns-clause-fewer c =
    fewer_next c.args.self.now.yard.items _ c.in-Some.next c.begun.result c.in-Some.ensures c.remove-2.ensures.items c.begun.ensures.left
