-- What the first level of each kind, or one unit of it, costs. Rule: docs/RULES.md, "Kinds and costs".
use Rattle.std.specs.Prelude.{ℕ}
use Rattle.catalog.specs.declared.kind.Kind.{Kind}
use Rattle.catalog.specs.declared.kind.Kind.TheVariants.{MetalMine, CrystalMine, DeuteriumSynth, SolarPlant, MetalStore, CrystalStore, DeuteriumTank, Robotics, Shipyard, Lab, Nanite, Energy, Laser, Ion, Hyperspace, Plasma, Combustion, Impulse, Hyperdrive, Espionage, Computer, Weapons, Shielding, Armour, Graviton, SmallCargo, LargeCargo, LightFighter, HeavyFighter, Cruiser, Battleship, Battlecruiser, Bomber, Destroyer, Deathstar, Recycler, ColonyShip, Probe, Satellite, Launcher, LightLaser, HeavyLaser, Gauss, IonCannon, PlasmaTurret, SmallDome, LargeDome}

-- units of the three resources
pub record Cost : Type 0 where
  pub metal : ℕ
  pub crystal : ℕ
  pub deuterium : ℕ

-- metal, crystal and deuterium, in this order
abbrev pub units : ℕ → ℕ → ℕ → Cost
units metal crystal deuterium = record { metal = metal; crystal = crystal; deuterium = deuterium }

-- what a kind costs: its level 1, or one unit
abbrev pub cost_of : Kind → Cost
cost_of MetalMine = units 60 15 0
cost_of CrystalMine = units 48 24 0
cost_of DeuteriumSynth = units 225 75 0
cost_of SolarPlant = units 75 30 0
cost_of MetalStore = units 1000 0 0
cost_of CrystalStore = units 1000 500 0
cost_of DeuteriumTank = units 1000 1000 0
cost_of Robotics = units 400 120 200
cost_of Shipyard = units 400 200 100
cost_of Lab = units 200 400 200
cost_of Nanite = units 1000000 500000 100000
cost_of Energy = units 0 800 400
cost_of Laser = units 200 100 0
cost_of Ion = units 1000 300 100
cost_of Hyperspace = units 0 4000 2000
cost_of Plasma = units 2000 4000 1000
cost_of Combustion = units 400 0 600
cost_of Impulse = units 2000 4000 600
cost_of Hyperdrive = units 10000 20000 6000
cost_of Espionage = units 200 1000 200
cost_of Computer = units 0 400 600
cost_of Weapons = units 800 200 0
cost_of Shielding = units 200 600 0
cost_of Armour = units 1000 0 0
cost_of Graviton = units 0 0 0
cost_of SmallCargo = units 2000 2000 0
cost_of LargeCargo = units 6000 6000 0
cost_of LightFighter = units 3000 1000 0
cost_of HeavyFighter = units 6000 4000 0
cost_of Cruiser = units 20000 7000 2000
cost_of Battleship = units 45000 15000 0
cost_of Battlecruiser = units 30000 40000 15000
cost_of Bomber = units 50000 25000 15000
cost_of Destroyer = units 60000 50000 15000
cost_of Deathstar = units 5000000 4000000 1000000
cost_of Recycler = units 10000 6000 2000
cost_of ColonyShip = units 10000 20000 10000
cost_of Probe = units 0 1000 0
cost_of Satellite = units 0 2000 500
cost_of Launcher = units 2000 0 0
cost_of LightLaser = units 1500 500 0
cost_of HeavyLaser = units 6000 2000 0
cost_of Gauss = units 20000 15000 2000
cost_of IonCannon = units 2000 6000 0
cost_of PlasmaTurret = units 50000 50000 30000
cost_of SmallDome = units 10000 10000 0
cost_of LargeDome = units 50000 50000 0
