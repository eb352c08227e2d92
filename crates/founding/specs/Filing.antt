-- How the maps of a draft change, and the lists that come of them.
use Rattle.std.specs.Prelude.{◌≡◌, ◌≤◌, ◌<◌, ℕ, List, [], length, Option, None, Some, vec_capacity}
use Rattle.std.specs.BTreeMap.{is_at, BTreeMap}
use Rattle.std.specs.Map.{set_value}
use Rattle.account_cell.specs.declared.account.Account.{Account}
use Rattle.account_cell.specs.declared.research_item.ResearchItem.{ResearchItem}
use Rattle.base_ids.specs.declared.coord.Coord.{Coord}
use Rattle.base_ids.specs.declared.player.Player.{Player}
use Rattle.catalog.specs.declared.techs.Techs.{Techs}
use Rattle.planet_cell.specs.Planet.{fields_of}
use Rattle.planet_cell.specs.declared.batch.Batch.{Batch}
use Rattle.planet_cell.specs.declared.building_item.BuildingItem.{BuildingItem}
use Rattle.planet_cell.specs.declared.planet.Planet.{Planet}
use Rattle.tick_model.specs.Universe.{AccountFields, PlanetFields}
use Rattle.founding.specs.DraftMaps.{own_in, own_of, player_order}
use Rattle.founding.specs.declared.account_sketch.AccountSketch.{AccountSketch}
use Rattle.founding.specs.declared.draft.TheConstants.{MOST_OWNED}
use Rattle.founding.specs.declared.sketch.Sketch.{Sketch}

-- a player is there, and one more place can be listed for him
abbrev pub HasRoom : Option AccountSketch → Type 0
HasRoom None = ⊥
HasRoom (Some account) = (length account.planets.items < MOST_OWNED) × (MOST_OWNED ≤ vec_capacity account.planets)

-- a player is there, and what is kept of him has room for as many places as he may have
abbrev pub IsListed : Option AccountSketch → Type 0
IsListed None = ⊥
IsListed (Some account) = MOST_OWNED ≤ vec_capacity account.planets

-- The account of one player gives way to one that has these places, that of its own, and so many units. Nothing else is changed.
pub record Alters (player : Player) (places : List Coord) (own : AccountFields) (units : ℕ) (old new : BTreeMap Player AccountSketch) : Type 0 where
  pub account : AccountSketch
  pub listed : account.planets.items ≡ places
  pub roomy : MOST_OWNED ≤ vec_capacity account.planets
  pub owned : own_in (Some account) ≡ own
  pub counted : account.units ≡ units
  pub entries : new.entries ≡ set_value (is_at (player_order player)) old.entries account

-- what is to be known of an account: whose it is, its technologies, the places of its planets, its units, and its queue
pub record AccountFacts : Type 0 where
  pub player : Player
  pub techs : Techs
  pub planets : List Coord
  pub units : ℕ
  pub queue : List ResearchItem

abbrev pub account_facts : Account → AccountFacts
account_facts account =
    record { player = account.player; techs = account.techs; planets = account.planets.items; units = account.units; queue = account.research.items }

-- of an account that lines have made
abbrev pub account_sketched : Player × AccountSketch → AccountFacts
account_sketched entry =
    record { player = entry.0; techs = entry.1.techs; planets = entry.1.planets.items; units = entry.1.units; queue = [] }

-- what is to be known of a planet: where it stands, what it has of its own, and its queues
pub record Facts : Type 0 where
  pub at : Coord
  pub own : PlanetFields
  pub queue : List BuildingItem
  pub yard : List Batch

abbrev pub facts_of : Planet → Facts
facts_of planet = record { at = planet.at; own = fields_of planet; queue = planet.buildings.items; yard = planet.yard.items }

-- of a planet that lines have made
abbrev pub facts_sketched : Sketch → Facts
facts_sketched sketch = record { at = sketch.at; own = own_of sketch; queue = []; yard = [] }
