-- How fast a fleet flies. Rule: docs/RULES.md, "Distances, speeds and flights".
use Rattle.std.specs.Prelude.{ℕ, List, [], ◌∷◌, Option, Some, None, ◌+◌, ◌*◌, ◌/◌, ◌≤◌, All, Any, fold, map, min}
use Rattle.base_num.specs.Division.{IsFloor}
use Rattle.catalog.specs.Flight.{engine_of}
use Rattle.catalog.specs.Technologies.{level_in}
use Rattle.catalog.specs.declared.engine.Drive.{Drive}
use Rattle.catalog.specs.declared.engine.Drive.TheVariants.{Combustion, Impulse, Hyperspace}
use Rattle.catalog.specs.declared.engine.Engine.{Engine}
use Rattle.catalog.specs.declared.kind.Kind.{Kind}
use Rattle.catalog.specs.declared.kind.Kind.TheVariants.{Combustion as CombustionTechnology, Impulse as ImpulseTechnology, Hyperdrive as HyperdriveTechnology}
use Rattle.catalog.specs.declared.ships.TheConstants.{SHIPS}
use Rattle.flight.specs.Fleets.{present}

-- the tenths of its first speed that a ship gains with each level of its drive
abbrev pub tenths_of : Drive → ℕ
tenths_of Combustion = 1
tenths_of Impulse = 2
tenths_of Hyperspace = 3

-- the technology of a drive
abbrev pub technology_of : Drive → Kind
technology_of Combustion = CombustionTechnology
technology_of Impulse = ImpulseTechnology
technology_of Hyperspace = HyperdriveTechnology

-- the level of the impulse technology
abbrev pub impulse_in : List ℕ → ℕ
impulse_in levels = level_in levels ImpulseTechnology

-- ten times the speed that an engine gives, before it is floored
abbrev pub engine_tenths : List ℕ → Option Engine → ℕ
engine_tenths levels None = 0
engine_tenths levels (Some engine) = engine.speed * (10 + tenths_of engine.drive * level_in levels (technology_of engine.drive))

-- ten times the speed of a ship, before it is floored
abbrev pub ship_tenths : List ℕ → Kind → ℕ
ship_tenths levels kind = engine_tenths levels (engine_of kind (impulse_in levels))

-- the speed of a ship whose owner's technologies have these levels
abbrev pub ship_speed : List ℕ → Kind → ℕ
ship_speed levels kind = ship_tenths levels kind / 10

-- the least of some numbers
unfoldable pub least : List ℕ → ℕ
least [] = 0
least (x ∷ xs) = fold min x xs

-- the speed of a fleet is that of its slowest ship
abbrev pub fleet_speed : List ℕ → List ℕ → ℕ
fleet_speed levels counts = least (map (ship_speed levels) (present SHIPS counts))

-- the lower of two speeds, if there is a first one
abbrev pub lower : Option ℕ → ℕ → Option ℕ
lower None speed = Some speed
lower (Some slowest) speed = Some (min slowest speed)

-- the lowest of the speeds of some kinds, and of one that is there before
abbrev pub slowest_of : Option ℕ → List ℕ → List Kind → Option ℕ
slowest_of before levels kinds = fold lower before (map (ship_speed levels) kinds)

-- some of these kinds has this speed, and none is slower
pub record IsSlowest (levels : List ℕ) (kinds : List Kind) (speed : ℕ) : Type 0 where
  pub reached : Any (λ kind. IsFloor (ship_tenths levels kind) 10 speed) kinds
  pub none_slower : All (λ kind. speed * 10 ≤ ship_tenths levels kind) kinds
