use Rattle.std.proofs.Common.{◌≡◌, ◌≤◌, ◌<◌, ◌^◌, rules, sum, arith}
use Rattle.fleet_rec.proofs.Ships.{ships_within}
use Rattle.fleet_rec.proofs.fleet.Fleet.ship_total.Goals as goal

pub sum-requires-clause-fits : goal.sum-requires-clause-fits
sum-requires-clause-fits c =
    let ships = c.args.self.now.ships in
    let within : sum ships.n ≤ 1300000 = ships_within ships.n ships.kinds ships.within in
    let fits : sum ships.n < 2 ^ 32 = omega arith in
    search rules

pub returns-clause-within : goal.returns-clause-within
returns-clause-within c =
    let ships = c.args.self.now.ships in
    let within : sum ships.n ≤ 1300000 = ships_within ships.n ships.kinds ships.within in
    let value : c.sum.result ≡ sum ships.n = search rules in
    omega arith
