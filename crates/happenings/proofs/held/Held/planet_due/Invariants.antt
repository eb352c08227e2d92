-- Of the planets passed so far none owes an event that comes before the first one.
use Rattle.std.proofs.Common.{◌≡◌, ◌++◌, List}
use Rattle.base_ids.specs.declared.coord.Coord.{Coord}
use Rattle.happenings.specs.Due.{IsFirstOwed, key_at}
use Rattle.happenings.specs.declared.held.PlanetCell.{PlanetCell}
use Rattle.happenings.proofs.Owing.{planet_owes, planet_there}
use Rattle.happenings.proofs.held.Held.planet_due.Given as goal

abbrev pub invariant-planets : goal.invariant-planets
invariant-planets l =
    (passed : List (Coord × PlanetCell)) × (passed ++ l.at-iterator ≡ l.self.planets.entries) × IsFirstOwed key_at (planet_owes l.moment) (planet_there l.self) passed l.first
