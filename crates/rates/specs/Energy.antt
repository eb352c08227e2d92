-- The energy that a planet's works give and need. Rule: docs/RULES.md, "Energy".
use Rattle.std.specs.Prelude.{◌≡◌, ℕ, ◌+◌, ◌≤◌, ◌≤ℤ◌, slice_index}
use Rattle.rates.specs.Formulas.{output, intake, collected, IsOutput, IsIntake, IsCollected}
use Rattle.catalog.specs.Levels.{level_cap_of}
use Rattle.catalog.specs.declared.kind.Kind.TheVariants.{MetalMine, CrystalMine, DeuteriumSynth, SolarPlant, Satellite}
use Rattle.catalog.specs.declared.kind.Kind.{Kind}
use Rattle.catalog.specs.Kinds.{place_in}
use Rattle.catalog.specs.declared.classes.TheConstants.{WORKS}
use Rattle.catalog.specs.declared.ships.TheConstants.{UNITS}
use Rattle.rates.specs.declared.works.TheConstants.{COLDEST, HOTTEST}
use Rattle.rates.specs.declared.works.Works.{Works}

-- the tenths at which a kind of work is set: they stand in the order of WORKS
abbrev pub setting : Works → Kind → ℕ
setting works kind = slice_index works.sets (place_in WORKS kind)

-- The works that a planet can have.
pub record IsInRange (works : Works) : Type 0 where
  pub metal : works.metal ≤ level_cap_of MetalMine
  pub crystal : works.crystal ≤ level_cap_of CrystalMine
  pub deuterium : works.deuterium ≤ level_cap_of DeuteriumSynth
  pub solar : works.solar ≤ level_cap_of SolarPlant
  pub metal_set : setting works MetalMine ≤ 10
  pub crystal_set : setting works CrystalMine ≤ 10
  pub deuterium_set : setting works DeuteriumSynth ≤ 10
  pub solar_set : setting works SolarPlant ≤ 10
  pub satellite_set : setting works Satellite ≤ 10
  pub satellites : works.satellites ≤ UNITS
  pub coldest : COLDEST ≤ℤ works.t
  pub hottest : works.t ≤ℤ HOTTEST

-- what the solar plant and the satellites give together
unfoldable pub given_of : Works → ℕ
given_of works = output 20 works.solar (setting works SolarPlant) + collected works.satellites works.t (setting works Satellite)

-- what the two mines and the synthesizer need together
unfoldable pub need_of : Works → ℕ
need_of works =
    intake 10 works.metal (setting works MetalMine)
    + intake 10 works.crystal (setting works CrystalMine)
    + intake 20 works.deuterium (setting works DeuteriumSynth)

-- So much is given: the parts are rounded one by one, and then added.
pub record IsGiven (works : Works) (given : ℕ) : Type 0 where
  pub solar : ℕ
  pub solar_is : IsOutput 20 works.solar (setting works SolarPlant) solar
  pub satellites : ℕ
  pub satellites_are : IsCollected works.satellites works.t (setting works Satellite) satellites
  pub sum : given ≡ solar + satellites

-- So much is needed: the parts are rounded up one by one, and then added.
pub record IsNeeded (works : Works) (need : ℕ) : Type 0 where
  pub metal : ℕ
  pub metal_is : IsIntake 10 works.metal (setting works MetalMine) metal
  pub crystal : ℕ
  pub crystal_is : IsIntake 10 works.crystal (setting works CrystalMine) crystal
  pub synthesizer : ℕ
  pub synthesizer_is : IsIntake 20 works.deuterium (setting works DeuteriumSynth) synthesizer
  pub sum : need ≡ metal + crystal + synthesizer
