-- The places of the kinds in the table of rapid fire.
use Rattle.std.specs.Prelude.{ℕ}
use Rattle.catalog.specs.declared.kind.Kind.{Kind}
use Rattle.catalog.specs.declared.kind.Kind.TheVariants.{SmallCargo, LargeCargo, LightFighter, HeavyFighter, Cruiser, Battleship, Battlecruiser, Bomber, Destroyer, Deathstar, Recycler, ColonyShip, Probe, Satellite, Launcher, LightLaser, HeavyLaser, Gauss, IonCannon, PlasmaTurret, SmallDome, LargeDome}

-- the units come first, by their numbers, and all other kinds share the last place
abbrev pub column_of : Kind → ℕ
column_of SmallCargo = 0
column_of LargeCargo = 1
column_of LightFighter = 2
column_of HeavyFighter = 3
column_of Cruiser = 4
column_of Battleship = 5
column_of Battlecruiser = 6
column_of Bomber = 7
column_of Destroyer = 8
column_of Deathstar = 9
column_of Recycler = 10
column_of ColonyShip = 11
column_of Probe = 12
column_of Satellite = 13
column_of Launcher = 14
column_of LightLaser = 15
column_of HeavyLaser = 16
column_of Gauss = 17
column_of IonCannon = 18
column_of PlasmaTurret = 19
column_of SmallDome = 20
column_of LargeDome = 21
column_of _ = 22
