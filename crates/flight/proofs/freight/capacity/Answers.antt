use Rattle.std.proofs.Common.{◌≡◌, ◌≤◌, get_or, ◌∙◌, arith}
use Rattle.catalog.specs.Flight.{cargo_of}
use Rattle.std.proofs.lemmas.Nat.{mul-le}
use Rattle.catalog.specs.declared.kind.Kind.TheVariants.{MetalMine}
use Rattle.catalog.specs.declared.ships.TheConstants.{SHIPS}
use Rattle.flight.proofs.Sums.{cargo_to, count_to, total_step}
use Rattle.flight.proofs.freight.capacity.Goals as goal

pub ships-preserved : goal.ships-preserved
ships-preserved c =
    let i = c.ships.i in
    let counts = c.args.ships.now.n in
    let one : c.from-in-ships.result ≡ cargo_of (get_or SHIPS i MetalMine) = c.from-in-ships.ensures ∙ c.cargo.ensures in
    let count_fits : c.from.result ≤ 100000 = omega (arith, count_to counts i c.args.ships.now.within, c.from.ensures) in
    let cargo_fits : c.from-in-ships.result ≤ 1000000 = omega (arith, cargo_to (get_or SHIPS i MetalMine), one) in
    let product = mul-le c.from.result c.from-in-ships.result 100000 1000000 count_fits cargo_fits in
    record {
      to = omega (arith, product);
      rest = total_step cargo_of SHIPS counts i MetalMine c.ships.sum c.from.result c.from-in-ships.result _ (omega arith) (omega arith) c.from.ensures one c.ships.invariant.rest;
    }
