-- Of the planets passed so far none has a fleet that comes before the first one.
use Rattle.std.proofs.Common.{◌≡◌, ◌++◌, List}
use Rattle.std.specs.Prelude.{option_map}
use Rattle.base_ids.specs.declared.coord.Coord.{Coord}
use Rattle.fleet_rec.specs.Fleet.{fleet_seen}
use Rattle.fleet_rec.specs.Fleets.{coming_key}
use Rattle.happenings.specs.Due.{IsFirstOwed}
use Rattle.happenings.specs.declared.held.PlanetCell.{PlanetCell}
use Rattle.happenings.proofs.Arriving.{coming_owed}
use Rattle.happenings.proofs.Owing.{planet_there}
use Rattle.happenings.proofs.held.Held.coming_due.Given as goal

abbrev pub invariant-planets : goal.invariant-planets
invariant-planets l =
    (passed : List (Coord × PlanetCell)) × (passed ++ l.at-iterator ≡ l.self.planets.entries) × IsFirstOwed coming_key (coming_owed l.moment) (planet_there l.self) passed (option_map fleet_seen l.first)
