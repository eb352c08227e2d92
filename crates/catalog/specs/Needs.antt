-- What has to stand before each kind can be ordered. Rule: docs/RULES.md, "Prerequisites".
use Rattle.std.specs.Prelude.{ℕ, List, [], ◌∷◌}
use Rattle.catalog.specs.declared.need.Need.{Need}
use Rattle.catalog.specs.declared.kind.Kind.{Kind}
use Rattle.catalog.specs.declared.kind.Kind.TheVariants.{Robotics, Shipyard, Lab, Nanite, Energy, Laser, Ion, Hyperspace, Plasma, Combustion, Impulse, Hyperdrive, Espionage, Computer, Weapons, Shielding, Armour, Graviton, SmallCargo, LargeCargo, LightFighter, HeavyFighter, Cruiser, Battleship, Battlecruiser, Bomber, Destroyer, Deathstar, Recycler, ColonyShip, Probe, Satellite, Launcher, LightLaser, HeavyLaser, Gauss, IonCannon, PlasmaTurret, SmallDome, LargeDome}

-- a building or a technology, and the level that it must have
abbrev pub at_level : Kind → ℕ → Need
at_level kind level = record { kind = kind; level = level }

-- what a kind needs, buildings first; all other kinds need nothing
abbrev pub needs_of : Kind → List Need
needs_of Shipyard = at_level Robotics 2 ∷ []
needs_of Nanite = at_level Robotics 10 ∷ at_level Computer 10 ∷ []
needs_of Energy = at_level Lab 1 ∷ []
needs_of Laser = at_level Lab 1 ∷ at_level Energy 2 ∷ []
needs_of Ion = at_level Lab 4 ∷ at_level Energy 4 ∷ at_level Laser 5 ∷ []
needs_of Hyperspace = at_level Lab 7 ∷ at_level Energy 5 ∷ at_level Shielding 5 ∷ []
needs_of Plasma = at_level Lab 4 ∷ at_level Energy 8 ∷ at_level Laser 10 ∷ at_level Ion 5 ∷ []
needs_of Combustion = at_level Lab 1 ∷ at_level Energy 1 ∷ []
needs_of Impulse = at_level Lab 2 ∷ at_level Energy 1 ∷ []
needs_of Hyperdrive = at_level Lab 7 ∷ at_level Hyperspace 3 ∷ []
needs_of Espionage = at_level Lab 3 ∷ []
needs_of Computer = at_level Lab 1 ∷ []
needs_of Weapons = at_level Lab 4 ∷ []
needs_of Shielding = at_level Lab 6 ∷ at_level Energy 3 ∷ []
needs_of Armour = at_level Lab 2 ∷ []
needs_of Graviton = at_level Lab 12 ∷ []
needs_of SmallCargo = at_level Shipyard 2 ∷ at_level Combustion 2 ∷ []
needs_of LargeCargo = at_level Shipyard 4 ∷ at_level Combustion 6 ∷ []
needs_of LightFighter = at_level Shipyard 1 ∷ at_level Combustion 1 ∷ []
needs_of HeavyFighter = at_level Shipyard 3 ∷ at_level Armour 2 ∷ at_level Impulse 2 ∷ []
needs_of Cruiser = at_level Shipyard 5 ∷ at_level Impulse 4 ∷ at_level Ion 2 ∷ []
needs_of Battleship = at_level Shipyard 7 ∷ at_level Hyperdrive 4 ∷ []
needs_of Battlecruiser = at_level Shipyard 8 ∷ at_level Hyperspace 5 ∷ at_level Hyperdrive 5 ∷ at_level Laser 12 ∷ []
needs_of Bomber = at_level Shipyard 8 ∷ at_level Impulse 6 ∷ at_level Plasma 5 ∷ []
needs_of Destroyer = at_level Shipyard 9 ∷ at_level Hyperspace 5 ∷ at_level Hyperdrive 6 ∷ []
needs_of Deathstar = at_level Shipyard 12 ∷ at_level Hyperspace 6 ∷ at_level Hyperdrive 7 ∷ at_level Graviton 1 ∷ []
needs_of Recycler = at_level Shipyard 4 ∷ at_level Combustion 6 ∷ at_level Shielding 2 ∷ []
needs_of ColonyShip = at_level Shipyard 4 ∷ at_level Impulse 3 ∷ []
needs_of Probe = at_level Shipyard 3 ∷ at_level Combustion 3 ∷ at_level Espionage 2 ∷ []
needs_of Satellite = at_level Shipyard 1 ∷ []
needs_of Launcher = at_level Shipyard 1 ∷ []
needs_of LightLaser = at_level Shipyard 2 ∷ at_level Energy 1 ∷ at_level Laser 3 ∷ []
needs_of HeavyLaser = at_level Shipyard 4 ∷ at_level Energy 3 ∷ at_level Laser 6 ∷ []
needs_of Gauss = at_level Shipyard 6 ∷ at_level Energy 6 ∷ at_level Weapons 3 ∷ at_level Shielding 1 ∷ []
needs_of IonCannon = at_level Shipyard 4 ∷ at_level Ion 4 ∷ []
needs_of PlasmaTurret = at_level Shipyard 8 ∷ at_level Plasma 7 ∷ []
needs_of SmallDome = at_level Shipyard 1 ∷ at_level Shielding 2 ∷ []
needs_of LargeDome = at_level Shipyard 1 ∷ at_level Shielding 6 ∷ []
needs_of _ = []
