-- What a draft in memory stands for, and what holds of its maps.
use Rattle.std.specs.Prelude.{◌≡◌, ◌≤◌, List, [], filter, map, length, replicate, ℕ, Option, None, Some, vec_capacity}
use Rattle.std.specs.declared.cmp.Ordering.{Ordering}
use Rattle.std.specs.List.{AllByRecursion}
use Rattle.std.specs.Ordering.{nat_cmp, ordering_then}
use Rattle.std.specs.BTreeMap.{get, keys, values}
use Rattle.base_ids.specs.Cells.{same_player}
use Rattle.base_ids.specs.declared.coord.Coord.{Coord}
use Rattle.base_ids.specs.declared.player.Player.{Player}
use Rattle.catalog.specs.declared.classes.TheConstants.{WORKS}
use Rattle.tick_model.specs.Universe.{AccountFields, PlanetFields}
use Rattle.founding.specs.Drafts.{units_of, DraftPlanet, Drafted}
use Rattle.founding.specs.Firsts.{first_account}
use Rattle.founding.specs.declared.account_sketch.AccountSketch.{AccountSketch}
use Rattle.founding.specs.declared.draft.TheConstants.{MOST_OWNED, MOST_PLANETS, MOST_PLAYERS}
use Rattle.founding.specs.declared.draft.Draft.{Draft}
use Rattle.founding.specs.declared.sketch.Sketch.{Sketch}

-- what a planet in memory has of its own: its works run at ten tenths
abbrev pub own_of : Sketch → PlanetFields
own_of sketch =
    record {
      owner = sketch.owner;
      temperature = sketch.temperature;
      fields = sketch.fields;
      levels = sketch.levels;
      tenths = replicate (length WORKS) 10;
      stock = sketch.stock;
      debris = record { metal = 0; crystal = 0 };
      units = sketch.units;
    }

-- the planet that it stands for
abbrev pub planet_of : Sketch → DraftPlanet
planet_of sketch = record { at = sketch.at; own = own_of sketch; stocked = sketch.stocked }

-- the order of players
abbrev pub player_order : Player → Player → Ordering
player_order a b = nat_cmp a.k b.k

-- the order of places
abbrev pub place_order : Coord → Coord → Ordering
place_order a b = ordering_then (nat_cmp a.g b.g) (ordering_then (nat_cmp a.s b.s) (nat_cmp a.p b.p))

-- the places of the planets of a player, in their order
abbrev pub places_of : Player → List DraftPlanet → List Coord
places_of player planets = map (λ planet. planet.at) (filter (λ planet. same_player planet.own.owner player) planets)

-- the places that a map has for a player
abbrev pub places_in : Option AccountSketch → List Coord
places_in None = []
places_in (Some account) = account.planets.items

-- what it has for a player's account of its own
abbrev pub own_in : Option AccountSketch → AccountFields
own_in None = first_account
own_in (Some account) = record { techs = account.techs }

-- how many units it has for a player
abbrev pub units_in : Option AccountSketch → ℕ
units_in None = 0
units_in (Some account) = account.units

-- what the draft has been told
abbrev pub draft_of : Draft → Drafted
draft_of draft =
    record {
      heading = draft.heading;
      players = keys draft.players;
      owns = λ player. own_in (get player_order draft.players player);
      planets = map planet_of (values draft.planets);
    }

-- Each planet is kept under its own place. For each player the places are those of the planets which he has, so who
-- isn't named has none; and there is room for as many as he may have. The units of these planets are counted. No list is longer
-- than a universe's may be, and the lists of the universe have room for all.
pub record IsKept (draft : Draft) : Type 0 where
  pub placed : AllByRecursion (λ entry. entry.1.at ≡ entry.0) draft.planets.entries
  pub listed : (player : Player) → places_in (get player_order draft.players player) ≡ places_of player (draft_of draft).planets
  pub counted : (player : Player) → units_in (get player_order draft.players player) ≡ units_of player (draft_of draft).planets
  pub roomy : AllByRecursion (λ entry. MOST_OWNED ≤ vec_capacity entry.1.planets) draft.players.entries
  pub few_players : length (draft_of draft).players ≤ MOST_PLAYERS
  pub few_planets : length (draft_of draft).planets ≤ MOST_PLANETS
  pub no_accounts : draft.account_room.items ≡ []
  pub no_planets : draft.planet_room.items ≡ []
  pub account_room : length (draft_of draft).players ≤ vec_capacity draft.account_room
  pub planet_room : length (draft_of draft).planets ≤ vec_capacity draft.planet_room
