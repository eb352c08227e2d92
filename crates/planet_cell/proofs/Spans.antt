-- How long the next level of a building and a unit can take.
use Rattle.std.proofs.Common.{ℕ, ◌^◌, ◌<◌, ◌≤◌}
use Rattle.std.specs.Prelude.{IsTrue}
use Rattle.catalog.specs.Classes.{is_building, is_unit}
use Rattle.catalog.specs.Levels.{level_cap_of}
use Rattle.catalog.specs.declared.kind.Kind.{Kind}
use Rattle.tick_model.specs.Buildings.{next_duration}
use Rattle.tick_model.specs.Production.{level_of}
use Rattle.tick_model.specs.Universe.{PlanetFields}
use Rattle.tick_model.specs.Yards.{unit_duration}
use Rattle.tick_model.proofs.Ends.{unit-least}
use Rattle.tick_model.proofs.Spans.{duration-most, unit-most}

-- no level of a building takes longer than 2^29 seconds
pub next_within : (speed : ℕ) (planet : PlanetFields) (kind : Kind) → IsTrue (is_building kind) → level_of planet kind < level_cap_of kind → 1 ≤ speed → next_duration speed planet kind ≤ 2 ^ 29
next_within speed planet kind class below some = duration-most speed planet kind class below some

-- a unit takes a second or more, and no unit longer than 2^24 seconds
pub unit_duration_within : (speed : ℕ) (planet : PlanetFields) (kind : Kind) → IsTrue (is_unit kind) → 1 ≤ speed → unit_duration speed planet kind ≤ 2 ^ 24
unit_duration_within speed planet kind class some = unit-most speed planet kind class some

pub unit_duration_from : (speed : ℕ) (planet : PlanetFields) (kind : Kind) → 1 ≤ unit_duration speed planet kind
unit_duration_from speed planet kind = unit-least speed planet kind
