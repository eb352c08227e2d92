use Rattle.std.proofs.Common.{◌≡◌, ap, ◌∙◌, arith}
use Rattle.std.specs.Prelude.{Option, map, unwrap_or, ℕ}
use Rattle.catalog.specs.declared.ships.TheConstants.{SHIPS}
use Rattle.flight.specs.Fleets.{present}
use Rattle.flight.specs.Speeds.{IsSlowest, fleet_speed, ship_speed}
use Rattle.flight.proofs.Slowest.{lowest_is_least, present_some, slowest_is, speed_from}
use Rattle.flight.proofs.speeds.speed.Goals as goal

slowest : (c : goal.After-unwrap_or) → IsSlowest c.args.t.now.n (present SHIPS c.args.ships.now.n) c.unwrap_or.result
slowest c =
    let levels = c.args.t.now.n in
    let counts = c.args.ships.now.n in
    let kinds = c.args.ships.now.kinds in
    let or_none = λ (lowest : Option ℕ). unwrap_or lowest 0 in
    let same : c.unwrap_or.result ≡ fleet_speed levels counts = c.unwrap_or.ensures ∙ ap or_none c.slowest.ensures ∙ lowest_is_least (map (ship_speed levels) (present SHIPS counts)) in
    slowest_is levels (present SHIPS counts) c.unwrap_or.result (present_some SHIPS counts (omega (arith, kinds)) c.args.ships.now.some) same

pub returns-clause-slowest : goal.returns-clause-slowest
returns-clause-slowest c = slowest c

pub returns-clause-from : goal.returns-clause-from
returns-clause-from c = speed_from c.args.t.now.n c.args.ships.now.n c.unwrap_or.result (slowest c)
