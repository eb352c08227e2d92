-- What the lines of a founding text say one after another, each judged by those before it. Rules: docs/RULES.md,
-- "The founding", and docs/PROTOCOL.md, "The founding text".
use Rattle.std.specs.Prelude.{◌≡◌, ◌<◌, ◌≤◌, ◌+◌, ◌*◌, ℕ, List, [], ◌∷◌, Bool, true, false, if◌then◌else◌, length, count_by, find, slice_set, sum, sum_by, Option, None, Some, ◌⊎◌}
use Rattle.std.specs.List.{list_any}
use Rattle.base_ids.specs.Cells.{same_coord, same_player}
use Rattle.base_ids.specs.Order.{coord_before, player_before}
use Rattle.base_ids.specs.declared.coord.Coord.{Coord}
use Rattle.base_ids.specs.declared.player.Player.{Player}
use Rattle.catalog.specs.Kinds.{place_in}
use Rattle.catalog.specs.Technologies.{level_in}
use Rattle.catalog.specs.declared.classes.TheConstants.{BUILDINGS, TECHNOLOGIES, UNIT_KINDS}
use Rattle.catalog.specs.declared.ships.TheConstants.{UNITS}
use Rattle.rates.specs.declared.stock.TheConstants.{GRAINS}
use Rattle.tick_model.specs.Production.{level_of}
use Rattle.tick_model.specs.Refusals.{used_fields}
use Rattle.tick_model.specs.Universe.{AccountFields, PlanetFields}
use Rattle.tick_model.specs.Yards.{count_of}
use Rattle.founding.specs.Firsts.{first_account, first_fields}
use Rattle.founding.specs.Lines.{heading_words, player_words, planet_words, stock_words, level_words, technology_words, units_words, IsLineOf}
use Rattle.founding.specs.declared.draft.TheConstants.{MOST_OWNED, MOST_PLANETS, MOST_PLAYERS}
use Rattle.founding.specs.declared.heading.Heading.{Heading}
use Rattle.founding.specs.declared.named.NewLevel.{NewLevel}
use Rattle.founding.specs.declared.named.NewPlanet.{NewPlanet}
use Rattle.founding.specs.declared.named.NewStock.{NewStock}
use Rattle.founding.specs.declared.named.NewTechnology.{NewTechnology}
use Rattle.founding.specs.declared.named.NewUnits.{NewUnits}

-- A planet as lines have made it so far: where it stands, what it has of its own, and whether a line has said its stock. A
-- building whose level no line has said has level 0, and of units that no line has said there are none.
pub record DraftPlanet : Type 0 where
  pub at : Coord
  pub own : PlanetFields
  pub stocked : Bool

-- What lines have said so far: the rules, capacity and moment of the heading, the players in the order of their
-- numbers, what the account of each player has of its own, and the planets in the order of their coordinates. A technology
-- whose level no line has said has level 0.
pub record Drafted : Type 0 where
  pub heading : Heading
  pub players : List Player
  pub owns : Player → AccountFields
  pub planets : List DraftPlanet

-- the heading alone
abbrev pub begun : Heading → Drafted
begun heading = record { heading = heading; players = []; owns = λ player. first_account; planets = [] }

-- a list with one more element, which stands just before the first one that it comes before
abbrev pub put : {A : Type 0} → (A → A → Bool) → A → List A → List A
put before new [] = new ∷ []
put before new (first ∷ later) = if before new first then new ∷ first ∷ later else first ∷ put before new later

-- by coordinates
abbrev pub planet_before : DraftPlanet → DraftPlanet → Bool
planet_before a b = coord_before a.at b.at

-- the player is one of these
abbrev pub is_named : Player → List Player → Bool
is_named player players = list_any (λ other. same_player other player) players

-- the planet that stands there
abbrev pub planet_at : Coord → List DraftPlanet → Option DraftPlanet
planet_at at planets = find (λ planet. same_coord planet.at at) planets

-- one of the planets stands there
abbrev pub is_taken : Coord → List DraftPlanet → Bool
is_taken at planets = list_any (λ planet. same_coord planet.at at) planets

-- how many of the planets the player has
abbrev pub planets_of : Player → List DraftPlanet → ℕ
planets_of player planets = count_by (λ planet. same_player planet.own.owner player) planets

-- how many units a planet adds to those of a player
abbrev pub units_by : Player → DraftPlanet → ℕ
units_by player planet = if same_player planet.own.owner player then sum planet.own.units else 0

-- how many units the planets of a player have
abbrev pub units_of : Player → List DraftPlanet → ℕ
units_of player planets = sum_by (units_by player) planets

-- the planet that stands where this one does gives way to it
abbrev pub replaced : DraftPlanet → List DraftPlanet → List DraftPlanet
replaced new [] = []
replaced new (old ∷ later) = if same_coord old.at new.at then new ∷ later else old ∷ replaced new later

-- a planet as it is founded
abbrev pub first_planet : NewPlanet → DraftPlanet
first_planet planet = record { at = planet.at; own = first_fields planet; stocked = false }

-- a planet with the stock that a line says
abbrev pub stocked_with : NewStock → DraftPlanet → DraftPlanet
stocked_with stock planet =
    record planet {
      own =
          record planet.own {
            stock = record { metal = stock.amounts.m * GRAINS; crystal = stock.amounts.c * GRAINS; deuterium = stock.amounts.d * GRAINS };
          };
      stocked = true;
    }

-- a planet with the level of a building that a line says
abbrev pub raised_to : NewLevel → DraftPlanet → DraftPlanet
raised_to level planet =
    record planet {
      own = record planet.own { levels = slice_set planet.own.levels (place_in BUILDINGS level.building.kind) level.level };
    }

-- a planet with the units of a kind that a line says
abbrev pub manned_with : NewUnits → DraftPlanet → DraftPlanet
manned_with new planet =
    record planet { own = record planet.own { units = slice_set planet.own.units (place_in UNIT_KINDS new.unit.kind) new.count } }

-- an account with the level of a technology that a line says
abbrev pub learned_to : NewTechnology → AccountFields → AccountFields
learned_to new own = record { techs = record { n = slice_set own.techs.n (place_in TECHNOLOGIES new.technology.kind) new.level } }

-- the accounts, of which that of one player has the level of a technology that a line says
abbrev pub taught : NewTechnology → (Player → AccountFields) → Player → AccountFields
taught new owns player = if same_player new.player player then learned_to new (owns player) else owns player

-- A player may be named who isn't named yet, if there is room for one more.
pub record MayName (draft : Drafted) (player : Player) : Type 0 where
  pub unnamed : is_named player draft.players ≡ false
  pub room : length draft.players < MOST_PLAYERS

-- A planet may stand at a free place, if its owner is named and may have one more planet, and if there is room for one
-- more.
pub record MayStand (draft : Drafted) (planet : NewPlanet) : Type 0 where
  pub free : is_taken planet.at draft.planets ≡ false
  pub named : is_named planet.owner draft.players ≡ true
  pub fewer : planets_of planet.owner draft.planets < MOST_OWNED
  pub room : length draft.planets < MOST_PLANETS

-- The stock of a planet may be said once, if the planet is named.
pub record MayStock (draft : Drafted) (stock : NewStock) (planet : DraftPlanet) : Type 0 where
  pub stands : planet_at stock.at draft.planets ≡ Some planet
  pub unsaid : planet.stocked ≡ false

-- The level of a building of a planet may be said once, if the planet is named and has fields for all its levels.
pub record MayRaise (draft : Drafted) (level : NewLevel) (planet : DraftPlanet) : Type 0 where
  pub stands : planet_at level.at draft.planets ≡ Some planet
  pub unsaid : level_of planet.own level.building.kind ≡ 0
  pub room : used_fields planet.own + level.level ≤ planet.own.fields

-- The level of a technology of a player may be said once, if the player is named.
pub record MayTeach (draft : Drafted) (new : NewTechnology) : Type 0 where
  pub named : is_named new.player draft.players ≡ true
  pub unsaid : level_in (draft.owns new.player).techs.n new.technology.kind ≡ 0

-- The units of a kind on a planet may be said once, if the planet is named and all units of its owner are then no more than an
-- account may have.
pub record MayMan (draft : Drafted) (new : NewUnits) (planet : DraftPlanet) : Type 0 where
  pub stands : planet_at new.at draft.planets ≡ Some planet
  pub unsaid : count_of planet.own new.unit.kind ≡ 0
  pub room : units_of planet.own.owner draft.planets + new.count ≤ UNITS

-- the player is named
abbrev pub Names : Drafted → Player → Drafted → Type 0
Names draft player new = MayName draft player × (new ≡ record draft { players = put player_before player draft.players })

-- the planet is given to its owner
abbrev pub Gives : Drafted → NewPlanet → Drafted → Type 0
Gives draft planet new = MayStand draft planet × (new ≡ record draft { planets = put planet_before (first_planet planet) draft.planets })

-- the planet that stands there has the stock
abbrev pub Stocks : Drafted → NewStock → Drafted → Type 0
Stocks draft stock new =
    (planet : DraftPlanet) × MayStock draft stock planet × (new ≡ record draft { planets = replaced (stocked_with stock planet) draft.planets })

-- the planet that stands there has the level
abbrev pub Raises : Drafted → NewLevel → Drafted → Type 0
Raises draft level new =
    (planet : DraftPlanet) × MayRaise draft level planet × (new ≡ record draft { planets = replaced (raised_to level planet) draft.planets })

-- the player's account has the level
abbrev pub Teaches : Drafted → NewTechnology → Drafted → Type 0
Teaches draft new after = MayTeach draft new × (after ≡ record draft { owns = taught new draft.owns })

-- the planet that stands there has the units
abbrev pub Mans : Drafted → NewUnits → Drafted → Type 0
Mans draft new after =
    (planet : DraftPlanet) × MayMan draft new planet × (after ≡ record draft { planets = replaced (manned_with new planet) draft.planets })

-- the universe begins
abbrev pub Begins : Heading → Drafted → Type 0
Begins heading new = new ≡ begun heading

-- A line of one form says a value, and `new` is what comes of that value.
pub record Says {A : Type 0} (words_of : A → List (List ℕ)) (Makes : A → Drafted → Type 0) (line : List ℕ) (new : Drafted) : Type 0 where
  pub value : A
  pub spelled : IsLineOf (words_of value) line
  pub makes : Makes value new

-- What a line adds to what the lines before it have said: the first line is a heading, and each other line has one of
-- the other forms.
abbrev pub Adds : Option Drafted → List ℕ → Drafted → Type 0
Adds None line new = Says heading_words Begins line new
Adds (Some draft) line new =
    Says player_words (Names draft) line new
    ⊎ Says planet_words (Gives draft) line new
    ⊎ Says stock_words (Stocks draft) line new
    ⊎ Says level_words (Raises draft) line new
    ⊎ Says technology_words (Teaches draft) line new
    ⊎ Says units_words (Mans draft) line new

-- the line adds nothing, whatever would come of it
abbrev pub AddsNothing : Option Drafted → List ℕ → Type 0
AddsNothing said line = (new : Drafted) → Adds said line new → ⊥

-- each of the lines adds to what the lines before it have said
abbrev pub Grows : Option Drafted → List (List ℕ) → Option Drafted → Type 0
Grows said [] new = new ≡ said
Grows said (line ∷ later) new = (next : Drafted) × Adds said line next × Grows (Some next) later new
