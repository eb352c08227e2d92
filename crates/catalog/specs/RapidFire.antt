-- Which ships may fire again, against which kinds. Rule: docs/RULES.md, "Rapid fire".
use Rattle.std.specs.Prelude.{ℕ}
use Rattle.catalog.specs.declared.kind.Kind.{Kind}
use Rattle.catalog.specs.declared.kind.Kind.TheVariants.{SmallCargo, LargeCargo, LightFighter, HeavyFighter, Cruiser, Battleship, Battlecruiser, Bomber, Destroyer, Deathstar, Recycler, ColonyShip, Probe, Satellite, Launcher, LightLaser, HeavyLaser, Gauss, IonCannon}

-- what most ships have: rapid fire against probes and satellites alone
abbrev pub common_fire : Kind → ℕ
common_fire Probe = 5
common_fire Satellite = 5
common_fire _ = 0

abbrev pub heavy_fighter_fire : Kind → ℕ
heavy_fighter_fire SmallCargo = 3
heavy_fighter_fire Probe = 5
heavy_fighter_fire Satellite = 5
heavy_fighter_fire _ = 0

abbrev pub cruiser_fire : Kind → ℕ
cruiser_fire LightFighter = 6
cruiser_fire Probe = 5
cruiser_fire Satellite = 5
cruiser_fire Launcher = 10
cruiser_fire _ = 0

abbrev pub battlecruiser_fire : Kind → ℕ
battlecruiser_fire SmallCargo = 3
battlecruiser_fire LargeCargo = 3
battlecruiser_fire HeavyFighter = 4
battlecruiser_fire Cruiser = 4
battlecruiser_fire Battleship = 7
battlecruiser_fire Probe = 5
battlecruiser_fire Satellite = 5
battlecruiser_fire _ = 0

abbrev pub bomber_fire : Kind → ℕ
bomber_fire Probe = 5
bomber_fire Satellite = 5
bomber_fire Launcher = 20
bomber_fire LightLaser = 20
bomber_fire HeavyLaser = 10
bomber_fire IonCannon = 10
bomber_fire _ = 0

abbrev pub destroyer_fire : Kind → ℕ
destroyer_fire Battlecruiser = 2
destroyer_fire Probe = 5
destroyer_fire Satellite = 5
destroyer_fire LightLaser = 10
destroyer_fire _ = 0

abbrev pub deathstar_fire : Kind → ℕ
deathstar_fire SmallCargo = 250
deathstar_fire LargeCargo = 250
deathstar_fire LightFighter = 200
deathstar_fire HeavyFighter = 100
deathstar_fire Cruiser = 33
deathstar_fire Battleship = 30
deathstar_fire Battlecruiser = 15
deathstar_fire Bomber = 25
deathstar_fire Destroyer = 5
deathstar_fire Recycler = 250
deathstar_fire ColonyShip = 250
deathstar_fire Probe = 1250
deathstar_fire Satellite = 1250
deathstar_fire Launcher = 200
deathstar_fire LightLaser = 200
deathstar_fire HeavyLaser = 100
deathstar_fire Gauss = 50
deathstar_fire IonCannon = 100
deathstar_fire _ = 0

-- the rapid fire of a shooter against a target; 0 is none
abbrev pub rapid_of : Kind → Kind → ℕ
rapid_of SmallCargo target = common_fire target
rapid_of LargeCargo target = common_fire target
rapid_of LightFighter target = common_fire target
rapid_of HeavyFighter target = heavy_fighter_fire target
rapid_of Cruiser target = cruiser_fire target
rapid_of Battleship target = common_fire target
rapid_of Battlecruiser target = battlecruiser_fire target
rapid_of Bomber target = bomber_fire target
rapid_of Destroyer target = destroyer_fire target
rapid_of Deathstar target = deathstar_fire target
rapid_of Recycler target = common_fire target
rapid_of ColonyShip target = common_fire target
rapid_of _ target = 0
