-- How strong a unit can be: every strength fits 32 bits.
use Rattle.std.proofs.Common.{◌+◌, ◌≤◌, lit≤}
use Rattle.catalog.specs.Combat.{attack_of, shield_of}
use Rattle.catalog.specs.Costs.{cost_of}
use Rattle.catalog.specs.declared.kind.Kind.{Kind}
use Rattle.catalog.specs.declared.kind.Kind.TheVariants.{MetalMine, CrystalMine, DeuteriumSynth, SolarPlant, MetalStore, CrystalStore, DeuteriumTank, Robotics, Shipyard, Lab, Nanite, Energy, Laser, Ion, Hyperspace, Plasma, Combustion, Impulse, Hyperdrive, Espionage, Computer, Weapons, Shielding, Armour, Graviton, SmallCargo, LargeCargo, LightFighter, HeavyFighter, Cruiser, Battleship, Battlecruiser, Bomber, Destroyer, Deathstar, Recycler, ColonyShip, Probe, Satellite, Launcher, LightLaser, HeavyLaser, Gauss, IonCannon, PlasmaTurret, SmallDome, LargeDome}

-- no attack is above that of a deathstar
pub attack_within : (kind : Kind) → attack_of kind ≤ 200000
attack_within MetalMine = lit≤ tt
attack_within CrystalMine = lit≤ tt
attack_within DeuteriumSynth = lit≤ tt
attack_within SolarPlant = lit≤ tt
attack_within MetalStore = lit≤ tt
attack_within CrystalStore = lit≤ tt
attack_within DeuteriumTank = lit≤ tt
attack_within Robotics = lit≤ tt
attack_within Shipyard = lit≤ tt
attack_within Lab = lit≤ tt
attack_within Nanite = lit≤ tt
attack_within Energy = lit≤ tt
attack_within Laser = lit≤ tt
attack_within Ion = lit≤ tt
attack_within Hyperspace = lit≤ tt
attack_within Plasma = lit≤ tt
attack_within Combustion = lit≤ tt
attack_within Impulse = lit≤ tt
attack_within Hyperdrive = lit≤ tt
attack_within Espionage = lit≤ tt
attack_within Computer = lit≤ tt
attack_within Weapons = lit≤ tt
attack_within Shielding = lit≤ tt
attack_within Armour = lit≤ tt
attack_within Graviton = lit≤ tt
attack_within SmallCargo = lit≤ tt
attack_within LargeCargo = lit≤ tt
attack_within LightFighter = lit≤ tt
attack_within HeavyFighter = lit≤ tt
attack_within Cruiser = lit≤ tt
attack_within Battleship = lit≤ tt
attack_within Battlecruiser = lit≤ tt
attack_within Bomber = lit≤ tt
attack_within Destroyer = lit≤ tt
attack_within Deathstar = lit≤ tt
attack_within Recycler = lit≤ tt
attack_within ColonyShip = lit≤ tt
attack_within Probe = lit≤ tt
attack_within Satellite = lit≤ tt
attack_within Launcher = lit≤ tt
attack_within LightLaser = lit≤ tt
attack_within HeavyLaser = lit≤ tt
attack_within Gauss = lit≤ tt
attack_within IonCannon = lit≤ tt
attack_within PlasmaTurret = lit≤ tt
attack_within SmallDome = lit≤ tt
attack_within LargeDome = lit≤ tt

-- no shield is above that of a deathstar
pub shield_within : (kind : Kind) → shield_of kind ≤ 50000
shield_within MetalMine = lit≤ tt
shield_within CrystalMine = lit≤ tt
shield_within DeuteriumSynth = lit≤ tt
shield_within SolarPlant = lit≤ tt
shield_within MetalStore = lit≤ tt
shield_within CrystalStore = lit≤ tt
shield_within DeuteriumTank = lit≤ tt
shield_within Robotics = lit≤ tt
shield_within Shipyard = lit≤ tt
shield_within Lab = lit≤ tt
shield_within Nanite = lit≤ tt
shield_within Energy = lit≤ tt
shield_within Laser = lit≤ tt
shield_within Ion = lit≤ tt
shield_within Hyperspace = lit≤ tt
shield_within Plasma = lit≤ tt
shield_within Combustion = lit≤ tt
shield_within Impulse = lit≤ tt
shield_within Hyperdrive = lit≤ tt
shield_within Espionage = lit≤ tt
shield_within Computer = lit≤ tt
shield_within Weapons = lit≤ tt
shield_within Shielding = lit≤ tt
shield_within Armour = lit≤ tt
shield_within Graviton = lit≤ tt
shield_within SmallCargo = lit≤ tt
shield_within LargeCargo = lit≤ tt
shield_within LightFighter = lit≤ tt
shield_within HeavyFighter = lit≤ tt
shield_within Cruiser = lit≤ tt
shield_within Battleship = lit≤ tt
shield_within Battlecruiser = lit≤ tt
shield_within Bomber = lit≤ tt
shield_within Destroyer = lit≤ tt
shield_within Deathstar = lit≤ tt
shield_within Recycler = lit≤ tt
shield_within ColonyShip = lit≤ tt
shield_within Probe = lit≤ tt
shield_within Satellite = lit≤ tt
shield_within Launcher = lit≤ tt
shield_within LightLaser = lit≤ tt
shield_within HeavyLaser = lit≤ tt
shield_within Gauss = lit≤ tt
shield_within IonCannon = lit≤ tt
shield_within PlasmaTurret = lit≤ tt
shield_within SmallDome = lit≤ tt
shield_within LargeDome = lit≤ tt

-- nothing costs more metal and crystal than a deathstar
pub cost_within : (kind : Kind) → (cost_of kind).metal + (cost_of kind).crystal ≤ 9000000
cost_within MetalMine = lit≤ tt
cost_within CrystalMine = lit≤ tt
cost_within DeuteriumSynth = lit≤ tt
cost_within SolarPlant = lit≤ tt
cost_within MetalStore = lit≤ tt
cost_within CrystalStore = lit≤ tt
cost_within DeuteriumTank = lit≤ tt
cost_within Robotics = lit≤ tt
cost_within Shipyard = lit≤ tt
cost_within Lab = lit≤ tt
cost_within Nanite = lit≤ tt
cost_within Energy = lit≤ tt
cost_within Laser = lit≤ tt
cost_within Ion = lit≤ tt
cost_within Hyperspace = lit≤ tt
cost_within Plasma = lit≤ tt
cost_within Combustion = lit≤ tt
cost_within Impulse = lit≤ tt
cost_within Hyperdrive = lit≤ tt
cost_within Espionage = lit≤ tt
cost_within Computer = lit≤ tt
cost_within Weapons = lit≤ tt
cost_within Shielding = lit≤ tt
cost_within Armour = lit≤ tt
cost_within Graviton = lit≤ tt
cost_within SmallCargo = lit≤ tt
cost_within LargeCargo = lit≤ tt
cost_within LightFighter = lit≤ tt
cost_within HeavyFighter = lit≤ tt
cost_within Cruiser = lit≤ tt
cost_within Battleship = lit≤ tt
cost_within Battlecruiser = lit≤ tt
cost_within Bomber = lit≤ tt
cost_within Destroyer = lit≤ tt
cost_within Deathstar = lit≤ tt
cost_within Recycler = lit≤ tt
cost_within ColonyShip = lit≤ tt
cost_within Probe = lit≤ tt
cost_within Satellite = lit≤ tt
cost_within Launcher = lit≤ tt
cost_within LightLaser = lit≤ tt
cost_within HeavyLaser = lit≤ tt
cost_within Gauss = lit≤ tt
cost_within IonCannon = lit≤ tt
cost_within PlasmaTurret = lit≤ tt
cost_within SmallDome = lit≤ tt
cost_within LargeDome = lit≤ tt

pub ruleset costs = (cost_within)

pub ruleset strengths = (attack_within, shield_within)
