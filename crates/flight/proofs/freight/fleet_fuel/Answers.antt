use Rattle.std.proofs.Common.{◌≡◌, ◌≤◌, get_or, ◌∙◌, arith}
use Rattle.std.proofs.lemmas.Nat.{mul-le}
use Rattle.catalog.specs.declared.kind.Kind.TheVariants.{MetalMine}
use Rattle.catalog.specs.declared.ships.TheConstants.{SHIPS}
use Rattle.flight.specs.Freight.{ship_fuel}
use Rattle.flight.proofs.Sums.{count_to, total_step}
use Rattle.flight.proofs.freight.fleet_fuel.Goals as goal

pub ships-preserved : goal.ships-preserved
ships-preserved c =
    let i = c.ships.i in
    let counts = c.args.ships.now.n in
    let one : c.from-in-ships.result ≡ ship_fuel c.args.impulse (get_or SHIPS i MetalMine) = c.from-in-ships.ensures ∙ c.ship_fuel.ensures.value in
    let count_fits : c.from.result ≤ 100000 = omega (arith, count_to counts i c.args.ships.now.within, c.from.ensures) in
    let fuel_fits : c.from-in-ships.result ≤ 1000 = omega (arith, c.from-in-ships.ensures, c.ship_fuel.ensures.to) in
    let product = mul-le c.from.result c.from-in-ships.result 100000 1000 count_fits fuel_fits in
    record {
      to = omega (arith, product);
      rest = total_step (ship_fuel c.args.impulse) SHIPS counts i MetalMine c.ships.sum c.from.result c.from-in-ships.result _ (omega arith) (omega arith) c.from.ensures one c.ships.invariant.rest;
    }
