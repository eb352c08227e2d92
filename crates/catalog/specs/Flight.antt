-- What each ship carries and what drives it. Rule: docs/RULES.md, "Ships".
use Rattle.std.specs.Prelude.{ℕ, Option, Some, None, nat_le, if◌then◌else◌}
use Rattle.catalog.specs.declared.engine.Drive.TheVariants.{Combustion, Impulse, Hyperspace}
use Rattle.catalog.specs.declared.engine.Drive.{Drive}
use Rattle.catalog.specs.declared.engine.Engine.{Engine}
use Rattle.catalog.specs.declared.kind.Kind.{Kind}
use Rattle.catalog.specs.declared.kind.Kind.TheVariants.{SmallCargo, LargeCargo, LightFighter, HeavyFighter, Cruiser, Battleship, Battlecruiser, Bomber, Destroyer, Deathstar, Recycler, ColonyShip, Probe, Satellite}

-- the units of resources that fit into one ship
abbrev pub cargo_of : Kind → ℕ
cargo_of SmallCargo = 5000
cargo_of LargeCargo = 25000
cargo_of LightFighter = 50
cargo_of HeavyFighter = 100
cargo_of Cruiser = 800
cargo_of Battleship = 1500
cargo_of Battlecruiser = 750
cargo_of Bomber = 500
cargo_of Destroyer = 2000
cargo_of Deathstar = 1000000
cargo_of Recycler = 20000
cargo_of ColonyShip = 7500
cargo_of Probe = 5
cargo_of Satellite = 0
cargo_of _ = 0

-- an engine: its speed while its drive has level 0, its drive and its fuel
abbrev pub engine : ℕ → Drive → ℕ → Option Engine
engine speed drive fuel = Some (record { drive = drive; speed = speed; fuel = fuel })

-- the engine of a kind at a level of the impulse technology; from level 5 on a small cargo has a faster one
abbrev pub engine_of : Kind → ℕ → Option Engine
engine_of SmallCargo impulse = if nat_le 5 impulse then engine 10000 Impulse 20 else engine 5000 Combustion 10
engine_of LargeCargo impulse = engine 7500 Combustion 50
engine_of LightFighter impulse = engine 12500 Combustion 20
engine_of HeavyFighter impulse = engine 10000 Impulse 75
engine_of Cruiser impulse = engine 15000 Impulse 300
engine_of Battleship impulse = engine 10000 Hyperspace 500
engine_of Battlecruiser impulse = engine 10000 Hyperspace 250
engine_of Bomber impulse = engine 4000 Impulse 1000
engine_of Destroyer impulse = engine 5000 Hyperspace 1000
engine_of Deathstar impulse = engine 100 Hyperspace 1
engine_of Recycler impulse = engine 2000 Combustion 300
engine_of ColonyShip impulse = engine 2500 Impulse 1000
engine_of Probe impulse = engine 100000000 Combustion 1
engine_of _ impulse = None
