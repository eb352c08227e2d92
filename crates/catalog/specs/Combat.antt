-- What each ship and each defence shoots with and is shielded by. Rules: docs/RULES.md, "Ships" and "Defences".
use Rattle.std.specs.Prelude.{ℕ}
use Rattle.catalog.specs.declared.kind.Kind.{Kind}
use Rattle.catalog.specs.declared.kind.Kind.TheVariants.{SmallCargo, LargeCargo, LightFighter, HeavyFighter, Cruiser, Battleship, Battlecruiser, Bomber, Destroyer, Deathstar, Recycler, ColonyShip, Probe, Satellite, Launcher, LightLaser, HeavyLaser, Gauss, IonCannon, PlasmaTurret, SmallDome, LargeDome}

-- the attack of one unit; buildings and technologies have none
abbrev pub attack_of : Kind → ℕ
attack_of SmallCargo = 5
attack_of LargeCargo = 5
attack_of LightFighter = 50
attack_of HeavyFighter = 150
attack_of Cruiser = 400
attack_of Battleship = 1000
attack_of Battlecruiser = 700
attack_of Bomber = 1000
attack_of Destroyer = 2000
attack_of Deathstar = 200000
attack_of Recycler = 1
attack_of ColonyShip = 50
attack_of Probe = 0
attack_of Satellite = 1
attack_of Launcher = 80
attack_of LightLaser = 100
attack_of HeavyLaser = 250
attack_of Gauss = 1100
attack_of IonCannon = 150
attack_of PlasmaTurret = 3000
attack_of SmallDome = 1
attack_of LargeDome = 1
attack_of _ = 0

-- the shield of one unit; buildings and technologies have none
abbrev pub shield_of : Kind → ℕ
shield_of SmallCargo = 10
shield_of LargeCargo = 25
shield_of LightFighter = 10
shield_of HeavyFighter = 25
shield_of Cruiser = 50
shield_of Battleship = 200
shield_of Battlecruiser = 400
shield_of Bomber = 500
shield_of Destroyer = 500
shield_of Deathstar = 50000
shield_of Recycler = 10
shield_of ColonyShip = 100
shield_of Probe = 0
shield_of Satellite = 1
shield_of Launcher = 20
shield_of LightLaser = 25
shield_of HeavyLaser = 100
shield_of Gauss = 200
shield_of IonCannon = 500
shield_of PlasmaTurret = 300
shield_of SmallDome = 2000
shield_of LargeDome = 10000
shield_of _ = 0
