use Rattle.std.proofs.Common.{ap, ◌∙◌, sym, subst}
use Rattle.std.specs.BTreeMap.{get}
use Rattle.fleet_rec.specs.Fleet.{fleet_seen}
use Rattle.planet_cell.specs.Planet.{fields_of}
use Rattle.tick_model.specs.Flights.{landed}
use Rattle.tick_model.specs.Universe.{of_planet}
use Rattle.happenings.specs.Orders.{place_order}
use Rattle.happenings.specs.declared.held.PlanetCell.{PlanetCell}
use Rattle.happenings.proofs.Cargoes.{no-place, one-place}
use Rattle.happenings.proofs.held.Held.cargo_back.Goals as goal

pub returns-in_err-cell-clause-back : goal.returns-in_err-cell-clause-back
returns-in_err-cell-clause-back c place found =
    no-place place (get place_order c.args.self.now.planets c.landing.result) (c.in_err-cell.ensures).value (ap (get place_order c.args.self.now.planets) c.landing.ensures ∙ found)

pub returns-clause-back : goal.returns-clause-back
returns-clause-back c place found =
    let same = one-place c.in_ok-cell.cell.now place (get place_order c.args.self.now.planets c.landing.result) (c.in_ok-cell.ensures).value (ap (get place_order c.args.self.now.planets) c.landing.ensures ∙ found) in
    c.cargo_back.ensures.back ∙ ap (λ (p : PlanetCell). (landed (fleet_seen c.args.fleet.now) (of_planet (fields_of p.planet))).back) same
