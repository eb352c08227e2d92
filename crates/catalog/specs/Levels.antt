-- How far the level of each kind goes, and how its cost grows with it. Rule: docs/RULES.md, "Kinds and costs".
use Rattle.std.specs.Prelude.{ℕ}
use Rattle.catalog.specs.declared.growth.Growth.{Growth}
use Rattle.catalog.specs.declared.kind.Kind.{Kind}
use Rattle.catalog.specs.declared.kind.Kind.TheVariants.{MetalMine, CrystalMine, DeuteriumSynth, SolarPlant, MetalStore, CrystalStore, DeuteriumTank, Robotics, Shipyard, Lab, Nanite, Energy, Laser, Ion, Hyperspace, Plasma, Combustion, Impulse, Hyperdrive, Espionage, Computer, Weapons, Shielding, Armour, Graviton}

-- a fraction, exact
abbrev pub fraction : ℕ → ℕ → Growth
fraction numerator denominator = record { numerator = numerator; denominator = denominator }

-- what the cost is multiplied by from one level to the next; units have no levels
abbrev pub growth_of : Kind → Growth
growth_of MetalMine = fraction 3 2
growth_of CrystalMine = fraction 8 5
growth_of DeuteriumSynth = fraction 3 2
growth_of SolarPlant = fraction 3 2
growth_of MetalStore = fraction 2 1
growth_of CrystalStore = fraction 2 1
growth_of DeuteriumTank = fraction 2 1
growth_of Robotics = fraction 2 1
growth_of Shipyard = fraction 2 1
growth_of Lab = fraction 2 1
growth_of Nanite = fraction 2 1
growth_of Energy = fraction 2 1
growth_of Laser = fraction 2 1
growth_of Ion = fraction 2 1
growth_of Hyperspace = fraction 2 1
growth_of Plasma = fraction 2 1
growth_of Combustion = fraction 2 1
growth_of Impulse = fraction 2 1
growth_of Hyperdrive = fraction 2 1
growth_of Espionage = fraction 2 1
growth_of Computer = fraction 2 1
growth_of Weapons = fraction 2 1
growth_of Shielding = fraction 2 1
growth_of Armour = fraction 2 1
growth_of Graviton = fraction 2 1
growth_of _ = fraction 1 1

-- the highest level of a kind; a unit counts as level 1
abbrev pub level_cap_of : Kind → ℕ
level_cap_of MetalMine = 30
level_cap_of CrystalMine = 30
level_cap_of DeuteriumSynth = 30
level_cap_of SolarPlant = 30
level_cap_of MetalStore = 16
level_cap_of CrystalStore = 16
level_cap_of DeuteriumTank = 16
level_cap_of Robotics = 12
level_cap_of Shipyard = 14
level_cap_of Lab = 14
level_cap_of Nanite = 8
level_cap_of Energy = 20
level_cap_of Laser = 20
level_cap_of Ion = 20
level_cap_of Hyperspace = 20
level_cap_of Plasma = 20
level_cap_of Combustion = 20
level_cap_of Impulse = 20
level_cap_of Hyperdrive = 20
level_cap_of Espionage = 20
level_cap_of Computer = 20
level_cap_of Weapons = 20
level_cap_of Shielding = 20
level_cap_of Armour = 20
level_cap_of Graviton = 1
level_cap_of _ = 1
