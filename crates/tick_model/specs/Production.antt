-- What a second makes of a cell in which no event comes due. Rules: docs/RULES.md, "Mines" to "One second of a stock".
use Rattle.std.specs.Prelude.{ℕ, slice_index}
use Rattle.base_ids.specs.declared.cell_id.CellId.{CellId}
use Rattle.catalog.specs.Kinds.{place_in}
use Rattle.catalog.specs.declared.classes.TheConstants.{BUILDINGS, UNIT_KINDS}
use Rattle.catalog.specs.declared.kind.Kind.{Kind}
use Rattle.catalog.specs.declared.kind.Kind.TheVariants.{MetalMine, CrystalMine, DeuteriumSynth, SolarPlant, MetalStore, CrystalStore, DeuteriumTank, Satellite}
use Rattle.rates.specs.Production.{produced_once, stores}
use Rattle.rates.specs.Times.{times}
use Rattle.rates.specs.Yields.{hourly_of}
use Rattle.rates.specs.declared.resources.Resources.{Resources}
use Rattle.rates.specs.declared.works.Hourly.{Hourly}
use Rattle.rates.specs.declared.works.Works.{Works}
use Rattle.tick_model.specs.declared.rules.Rules.{Rules}
use Rattle.tick_model.specs.Universe.{PlanetFields, Own, of_nothing, of_account, of_planet, State, Setting}
use Rattle.tick_model.specs.Views.{View, view}

-- the level of a building
unfoldable pub level_of : PlanetFields → Kind → ℕ
level_of planet kind = slice_index planet.levels (place_in BUILDINGS kind)

-- the works of a planet
unfoldable pub works_of : PlanetFields → Works
works_of planet =
    record {
      metal = level_of planet MetalMine;
      crystal = level_of planet CrystalMine;
      deuterium = level_of planet DeuteriumSynth;
      solar = level_of planet SolarPlant;
      sets = planet.tenths;
      satellites = slice_index planet.units (place_in UNIT_KINDS Satellite);
      t = planet.temperature;
    }

-- what a planet yields an hour at a speed, in units, and its energy
unfoldable pub yields_of : ℕ → PlanetFields → Hourly
yields_of speed planet = hourly_of (works_of planet) speed

-- how far production fills its stocks, in units
unfoldable pub limits_of : PlanetFields → Resources
limits_of planet = stores (level_of planet MetalStore) (level_of planet CrystalStore) (level_of planet DeuteriumTank)

-- one second of production on a planet, in a universe of this speed
unfoldable pub planet_second : ℕ → PlanetFields → PlanetFields
planet_second speed planet = record planet { stock = produced_once (limits_of planet) (yields_of speed planet) planet.stock }

-- one second of what a cell has of its own: planets gain, accounts don't
abbrev pub own_second : Rules → Own → Own
own_second rules of_nothing = of_nothing
own_second rules (of_account account) = of_account account
own_second rules (of_planet planet) = of_planet (planet_second rules.speed planet)

-- one second of a cell, by what is seen of it
abbrev pub cell_second : Rules → View → View
cell_second rules seen = record seen { own = own_second rules seen.own }

-- a cell after so many seconds
abbrev pub gains : Rules → ℕ → View → View
gains rules seconds seen = times seconds (cell_second rules) seen

-- every cell after seconds of its own
abbrev pub advance : Setting → (CellId → ℕ) → State → State
advance setting seconds state =
    record state { own = λ cell. (gains setting.rules (seconds cell) (view setting.cells state cell)).own }
