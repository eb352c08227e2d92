-- What fleets burn and carry. Rule: docs/RULES.md, "Distances, speeds and flights".
use Rattle.std.specs.Prelude.{ℕ, List, Option, Some, None, ◌+◌, ◌*◌, ◌/◌}
use Rattle.catalog.specs.Flight.{cargo_of, engine_of}
use Rattle.catalog.specs.declared.engine.Engine.{Engine}
use Rattle.catalog.specs.declared.kind.Kind.{Kind}
use Rattle.catalog.specs.declared.ships.TheConstants.{SHIPS}
use Rattle.flight.specs.Fleets.{total}
use Rattle.flight.specs.Speeds.{impulse_in}

-- the fuel that an engine takes
abbrev pub engine_fuel : Option Engine → ℕ
engine_fuel None = 0
engine_fuel (Some engine) = engine.fuel

-- the fuel that one ship takes, at a level of the impulse technology
abbrev pub ship_fuel : ℕ → Kind → ℕ
ship_fuel impulse kind = engine_fuel (engine_of kind impulse)

-- the fuel that all ships take, by the owner's levels
abbrev pub fleet_fuel : List ℕ → List ℕ → ℕ
fleet_fuel levels counts = total (ship_fuel (impulse_in levels)) SHIPS counts

-- what the fuel for a flight is reckoned from: all ships, over a distance d, at a speed setting p
abbrev pub burning : List ℕ → List ℕ → ℕ → ℕ → ℕ
burning levels counts d p = fleet_fuel levels counts * d * ((p + 10) * (p + 10))

-- the deuterium that a flight takes
abbrev pub flight_fuel : List ℕ → List ℕ → ℕ → ℕ → ℕ
flight_fuel levels counts d p = 1 + burning levels counts d p / 3500000

-- the units of resources that a fleet can carry
abbrev pub capacity_of : List ℕ → ℕ
capacity_of counts = total cargo_of SHIPS counts
