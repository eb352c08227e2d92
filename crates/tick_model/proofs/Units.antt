-- Each unit has a place among the kinds of units.
use Rattle.std.proofs.Common.{◌<◌, length, arith}
use Rattle.std.specs.Prelude.{IsTrue}
use Rattle.catalog.specs.Classes.{is_unit}
use Rattle.catalog.specs.Kinds.{place_in}
use Rattle.catalog.specs.declared.classes.TheConstants.{UNIT_KINDS}
use Rattle.catalog.specs.declared.kind.Kind.{Kind}
use Rattle.catalog.specs.declared.kind.Kind.TheVariants.{MetalMine, CrystalMine, DeuteriumSynth, SolarPlant, MetalStore, CrystalStore, DeuteriumTank, Robotics, Shipyard, Lab, Nanite, Energy, Laser, Ion, Hyperspace, Plasma, Combustion, Impulse, Hyperdrive, Espionage, Computer, Weapons, Shielding, Armour, Graviton, SmallCargo, LargeCargo, LightFighter, HeavyFighter, Cruiser, Battleship, Battlecruiser, Bomber, Destroyer, Deathstar, Recycler, ColonyShip, Probe, Satellite, Launcher, LightLaser, HeavyLaser, Gauss, IonCannon, PlasmaTurret, SmallDome, LargeDome}

pub unit-place : (kind : Kind) → IsTrue (is_unit kind) → place_in UNIT_KINDS kind < length UNIT_KINDS
unit-place SmallCargo is = omega arith
unit-place LargeCargo is = omega arith
unit-place LightFighter is = omega arith
unit-place HeavyFighter is = omega arith
unit-place Cruiser is = omega arith
unit-place Battleship is = omega arith
unit-place Battlecruiser is = omega arith
unit-place Bomber is = omega arith
unit-place Destroyer is = omega arith
unit-place Deathstar is = omega arith
unit-place Recycler is = omega arith
unit-place ColonyShip is = omega arith
unit-place Probe is = omega arith
unit-place Satellite is = omega arith
unit-place Launcher is = omega arith
unit-place LightLaser is = omega arith
unit-place HeavyLaser is = omega arith
unit-place Gauss is = omega arith
unit-place IonCannon is = omega arith
unit-place PlasmaTurret is = omega arith
unit-place SmallDome is = omega arith
unit-place LargeDome is = omega arith
unit-place MetalMine is = absurd cc
unit-place CrystalMine is = absurd cc
unit-place DeuteriumSynth is = absurd cc
unit-place SolarPlant is = absurd cc
unit-place MetalStore is = absurd cc
unit-place CrystalStore is = absurd cc
unit-place DeuteriumTank is = absurd cc
unit-place Robotics is = absurd cc
unit-place Shipyard is = absurd cc
unit-place Lab is = absurd cc
unit-place Nanite is = absurd cc
unit-place Energy is = absurd cc
unit-place Laser is = absurd cc
unit-place Ion is = absurd cc
unit-place Hyperspace is = absurd cc
unit-place Plasma is = absurd cc
unit-place Combustion is = absurd cc
unit-place Impulse is = absurd cc
unit-place Hyperdrive is = absurd cc
unit-place Espionage is = absurd cc
unit-place Computer is = absurd cc
unit-place Weapons is = absurd cc
unit-place Shielding is = absurd cc
unit-place Armour is = absurd cc
unit-place Graviton is = absurd cc
