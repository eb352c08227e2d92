-- Which bases bytes can spell. Rule: docs/FORMATS.md, "What bytes spell a base".
use Rattle.std.specs.Prelude.{◌≡◌, ℕ, ◌<◌, ◌≤◌, ◌^◌, List, All, length, map}
use Rattle.base_bytes.specs.Sound.{IsSound}
use Rattle.base_bytes.specs.Spelling.{base_spelling}
use Rattle.base_bytes.specs.declared.base.Base.{Base}
use Rattle.base_bytes.specs.declared.limits.TheConstants.{MOST_FIELDS, MOST_OWNED, MOST_PLANETS, MOST_PLAYERS}
use Rattle.catalog.specs.declared.amounts.TheConstants.{CAP}
use Rattle.catalog.specs.declared.classes.TheConstants.{BUILDINGS, TECHNOLOGIES, WORKS}
use Rattle.fleet_rec.specs.Fleet.{fleet_seen}
use Rattle.fleet_rec.specs.declared.fleet.Fleet.{Fleet as FleetRecord}
use Rattle.planet_cell.specs.declared.planet.Planet.{Planet}

-- A planet has a level for each kind of building, and tenths for each kind of work. It has at least one field, and no more than a
-- planet may have. Its debris is at most the cap.
pub record IsInRange (planet : Planet) : Type 0 where
  pub levels : length planet.levels ≡ length BUILDINGS
  pub tenths : length planet.tenths ≡ length WORKS
  pub some : 1 ≤ planet.fields
  pub fields : planet.fields ≤ MOST_FIELDS
  pub metal : planet.debris.metal ≤ CAP
  pub crystal : planet.debris.crystal ≤ CAP

-- A base as bytes can spell it: it is sound, and no larger than a universe may be; and its planets, its accounts and its fleets are
-- in their ranges.
pub record IsBase (base : Base) : Type 0 where
  pub sound : IsSound base
  pub players : length base.accounts.items ≤ MOST_PLAYERS
  pub planets : length base.planets.items ≤ MOST_PLANETS
  pub owned : All (λ account. length account.planets.items ≤ MOST_OWNED) base.accounts.items
  pub ranges : All IsInRange base.planets.items
  pub levels : All (λ account. length account.techs.n ≡ length TECHNOLOGIES) base.accounts.items
  pub fleets : (held : List FleetRecord) × (base.fleets ≡ map fleet_seen held)

-- the bytes spell a base of the rules, whose seed has 64 bits
pub record Spells (bytes : List ℕ) (base : Base) : Type 0 where
  pub rules : IsBase base
  pub seed : base.seed < 2 ^ 64
  pub is : bytes ≡ base_spelling base
