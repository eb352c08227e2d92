-- The kinds, their numbers and their words. Rule: docs/RULES.md, "Kinds and costs".
use Rattle.std.specs.Prelude.{ℕ, List, ◌==◌, codes}
use Rattle.std.specs.List.{position_or_len}
use Rattle.catalog.specs.declared.kind.Kind.{Kind}
use Rattle.catalog.specs.declared.kind.Kind.TheVariants.{MetalMine, CrystalMine, DeuteriumSynth, SolarPlant, MetalStore, CrystalStore, DeuteriumTank, Robotics, Shipyard, Lab, Nanite, Energy, Laser, Ion, Hyperspace, Plasma, Combustion, Impulse, Hyperdrive, Espionage, Computer, Weapons, Shielding, Armour, Graviton, SmallCargo, LargeCargo, LightFighter, HeavyFighter, Cruiser, Battleship, Battlecruiser, Bomber, Destroyer, Deathstar, Recycler, ColonyShip, Probe, Satellite, Launcher, LightLaser, HeavyLaser, Gauss, IonCannon, PlasmaTurret, SmallDome, LargeDome}

-- the number of a kind
abbrev pub kind_number : Kind → ℕ
kind_number MetalMine = 1
kind_number CrystalMine = 2
kind_number DeuteriumSynth = 3
kind_number SolarPlant = 4
kind_number MetalStore = 5
kind_number CrystalStore = 6
kind_number DeuteriumTank = 7
kind_number Robotics = 8
kind_number Shipyard = 9
kind_number Lab = 10
kind_number Nanite = 11
kind_number Energy = 21
kind_number Laser = 22
kind_number Ion = 23
kind_number Hyperspace = 24
kind_number Plasma = 25
kind_number Combustion = 26
kind_number Impulse = 27
kind_number Hyperdrive = 28
kind_number Espionage = 29
kind_number Computer = 30
kind_number Weapons = 31
kind_number Shielding = 32
kind_number Armour = 33
kind_number Graviton = 34
kind_number SmallCargo = 41
kind_number LargeCargo = 42
kind_number LightFighter = 43
kind_number HeavyFighter = 44
kind_number Cruiser = 45
kind_number Battleship = 46
kind_number Battlecruiser = 47
kind_number Bomber = 48
kind_number Destroyer = 49
kind_number Deathstar = 50
kind_number Recycler = 51
kind_number ColonyShip = 52
kind_number Probe = 53
kind_number Satellite = 54
kind_number Launcher = 61
kind_number LightLaser = 62
kind_number HeavyLaser = 63
kind_number Gauss = 64
kind_number IonCannon = 65
kind_number PlasmaTurret = 66
kind_number SmallDome = 67
kind_number LargeDome = 68

-- the place of a kind in a list of kinds, counted from 0
abbrev pub place_in : List Kind → Kind → ℕ
place_in kinds kind = position_or_len (λ other. kind_number other == kind_number kind) kinds

-- the word of a kind
abbrev pub kind_word : Kind → List ℕ
kind_word MetalMine = codes "metalmine"
kind_word CrystalMine = codes "crystalmine"
kind_word DeuteriumSynth = codes "deuteriumsynth"
kind_word SolarPlant = codes "solarplant"
kind_word MetalStore = codes "metalstore"
kind_word CrystalStore = codes "crystalstore"
kind_word DeuteriumTank = codes "deuteriumtank"
kind_word Robotics = codes "robotics"
kind_word Shipyard = codes "shipyard"
kind_word Lab = codes "lab"
kind_word Nanite = codes "nanite"
kind_word Energy = codes "energy"
kind_word Laser = codes "laser"
kind_word Ion = codes "ion"
kind_word Hyperspace = codes "hyperspace"
kind_word Plasma = codes "plasma"
kind_word Combustion = codes "combustion"
kind_word Impulse = codes "impulse"
kind_word Hyperdrive = codes "hyperdrive"
kind_word Espionage = codes "espionage"
kind_word Computer = codes "computer"
kind_word Weapons = codes "weapons"
kind_word Shielding = codes "shielding"
kind_word Armour = codes "armour"
kind_word Graviton = codes "graviton"
kind_word SmallCargo = codes "smallcargo"
kind_word LargeCargo = codes "largecargo"
kind_word LightFighter = codes "lightfighter"
kind_word HeavyFighter = codes "heavyfighter"
kind_word Cruiser = codes "cruiser"
kind_word Battleship = codes "battleship"
kind_word Battlecruiser = codes "battlecruiser"
kind_word Bomber = codes "bomber"
kind_word Destroyer = codes "destroyer"
kind_word Deathstar = codes "deathstar"
kind_word Recycler = codes "recycler"
kind_word ColonyShip = codes "colonyship"
kind_word Probe = codes "probe"
kind_word Satellite = codes "satellite"
kind_word Launcher = codes "launcher"
kind_word LightLaser = codes "lightlaser"
kind_word HeavyLaser = codes "heavylaser"
kind_word Gauss = codes "gauss"
kind_word IonCannon = codes "ioncannon"
kind_word PlasmaTurret = codes "plasmaturret"
kind_word SmallDome = codes "smalldome"
kind_word LargeDome = codes "largedome"
