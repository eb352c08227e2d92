-- The levels of a planet are within the caps of their kinds.
use Rattle.std.proofs.Common.{ℕ, zero, suc, ◌≤◌, List, [], refl, replicate, arith, slice_index}
use Rattle.std.specs.Prelude.{IsTrue}
use Rattle.catalog.specs.Classes.{is_building}
use Rattle.catalog.specs.Kinds.{place_in}
use Rattle.catalog.specs.Levels.{level_cap_of}
use Rattle.catalog.specs.declared.classes.TheConstants.{BUILDINGS}
use Rattle.catalog.specs.declared.kind.Kind.{Kind}
use Rattle.catalog.specs.declared.kind.Kind.TheVariants.{MetalMine, CrystalMine, DeuteriumSynth, SolarPlant, MetalStore, CrystalStore, DeuteriumTank, Robotics, Nanite}
use Rattle.planet_cell.specs.Bounds.{AreWithinCaps}
use Rattle.planet_cell.specs.declared.building_item.BuildingItem.{BuildingItem}

-- no level is above the cap of its kind
pub kind_within : (levels : List ℕ) (items : List BuildingItem) (kind : Kind) → AreWithinCaps levels items → IsTrue (is_building kind) → slice_index levels (place_in BUILDINGS kind) ≤ level_cap_of kind
kind_within levels items kind capped class = omega (arith, capped.each kind class)

pub metal_mine_within : (levels : List ℕ) (items : List BuildingItem) → AreWithinCaps levels items → slice_index levels 0 ≤ 30
metal_mine_within levels items capped = kind_within levels items MetalMine capped refl

pub crystal_mine_within : (levels : List ℕ) (items : List BuildingItem) → AreWithinCaps levels items → slice_index levels 1 ≤ 30
crystal_mine_within levels items capped = kind_within levels items CrystalMine capped refl

pub synthesizer_within : (levels : List ℕ) (items : List BuildingItem) → AreWithinCaps levels items → slice_index levels 2 ≤ 30
synthesizer_within levels items capped = kind_within levels items DeuteriumSynth capped refl

pub solar_plant_within : (levels : List ℕ) (items : List BuildingItem) → AreWithinCaps levels items → slice_index levels 3 ≤ 30
solar_plant_within levels items capped = kind_within levels items SolarPlant capped refl

pub metal_store_within : (levels : List ℕ) (items : List BuildingItem) → AreWithinCaps levels items → slice_index levels 4 ≤ 16
metal_store_within levels items capped = kind_within levels items MetalStore capped refl

pub crystal_store_within : (levels : List ℕ) (items : List BuildingItem) → AreWithinCaps levels items → slice_index levels 5 ≤ 16
crystal_store_within levels items capped = kind_within levels items CrystalStore capped refl

pub tank_within : (levels : List ℕ) (items : List BuildingItem) → AreWithinCaps levels items → slice_index levels 6 ≤ 16
tank_within levels items capped = kind_within levels items DeuteriumTank capped refl

pub robotics_within : (levels : List ℕ) (items : List BuildingItem) → AreWithinCaps levels items → slice_index levels 7 ≤ 12
robotics_within levels items capped = kind_within levels items Robotics capped refl

pub nanite_within : (levels : List ℕ) (items : List BuildingItem) → AreWithinCaps levels items → slice_index levels 10 ≤ 8
nanite_within levels items capped = kind_within levels items Nanite capped refl

pub ruleset caps = (metal_mine_within, crystal_mine_within, synthesizer_within, solar_plant_within, metal_store_within, crystal_store_within, tank_within, robotics_within, nanite_within)

-- a list of one number over and over holds no greater one
pub same_within : (most value count place : ℕ) → value ≤ most → slice_index (replicate count value) place ≤ most
same_within most value zero place small = omega arith
same_within most value (suc count) zero small = small
same_within most value (suc count) (suc place) small = same_within most value count place small

-- without buildings and items no building is above its cap
pub caps_fresh : AreWithinCaps (replicate 11 0) []
caps_fresh = record { each = λ kind class. omega (arith, same_within 0 0 11 (place_in BUILDINGS kind) (omega arith)) }
