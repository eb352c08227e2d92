use Rattle.std.proofs.Common.{arith}
use Rattle.std.proofs.lemmas.Bool.Decides.{nat_tests}
use Rattle.planet_cell.proofs.Batches.{begun_pushed, total_pushed}
use Rattle.planet_cell.proofs.Totals.{left_items}
use Rattle.planet_cell.proofs.planet.Planet.order_batch.Goals as goal

pub invariant_of-self-2-clause-within_units : goal.invariant_of-self-2-clause-within_units
invariant_of-self-2-clause-within_units c =
    let planet = c.args.self.now in
    total_pushed planet.units planet.yard.items c.push.new.self.items _ _ c.push.ensures.items (omega (arith, left_items planet.at planet.yard.items, c.requires.order.within))

pub invariant_of-self-2-clause-first_begun : goal.invariant_of-self-2-clause-first_begun
invariant_of-self-2-clause-first_begun c =
    let planet = c.args.self.now in
    begun_pushed planet.yard.items c.push.new.self.items _ _ c.push.ensures.items planet.first_begun (grind (arith, nat_tests))
