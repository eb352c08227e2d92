-- The lines of a founding text, each by its words. Rule: docs/PROTOCOL.md, "The founding text".
use Rattle.std.specs.Prelude.{◌≡◌, ◌≤◌, ℕ, List, [], ◌∷◌, codes, length}
use Rattle.std.specs.Fmt.{decimal, signed_decimal}
use Rattle.base_text.specs.Parts.{words}
use Rattle.base_ids.specs.Text.{coord_text, player_text}
use Rattle.base_ids.specs.declared.player.Player.{Player}
use Rattle.catalog.specs.Kinds.{kind_word}
use Rattle.request_text.specs.declared.line_reader.TheConstants.{LONGEST_LINE}
use Rattle.founding.specs.declared.heading.Heading.{Heading}
use Rattle.founding.specs.declared.named.NewLevel.{NewLevel}
use Rattle.founding.specs.declared.named.NewPlanet.{NewPlanet}
use Rattle.founding.specs.declared.named.NewStock.{NewStock}
use Rattle.founding.specs.declared.named.NewTechnology.{NewTechnology}
use Rattle.founding.specs.declared.named.NewUnits.{NewUnits}

-- `universe SEED SPEED CAPACITY MOMENT`
abbrev pub heading_words : Heading → List (List ℕ)
heading_words heading =
    codes "universe" ∷ decimal heading.rules.seed ∷ decimal heading.rules.speed ∷ decimal heading.capacity ∷ decimal heading.moment ∷ []

-- `player K`
abbrev pub player_words : Player → List (List ℕ)
player_words player = codes "player" ∷ player_text player ∷ []

-- `planet C K TEMPERATURE FIELDS`
abbrev pub planet_words : NewPlanet → List (List ℕ)
planet_words planet =
    codes "planet" ∷ coord_text planet.at ∷ player_text planet.owner ∷ signed_decimal planet.temperature ∷ decimal planet.fields ∷ []

-- `stock C METAL CRYSTAL DEUTERIUM`
abbrev pub stock_words : NewStock → List (List ℕ)
stock_words stock =
    codes "stock" ∷ coord_text stock.at ∷ decimal stock.amounts.m ∷ decimal stock.amounts.c ∷ decimal stock.amounts.d ∷ []

-- `level C BUILDING L`
abbrev pub level_words : NewLevel → List (List ℕ)
level_words level = codes "level" ∷ coord_text level.at ∷ kind_word level.building.kind ∷ decimal level.level ∷ []

-- `tech K TECH L`
abbrev pub technology_words : NewTechnology → List (List ℕ)
technology_words new = codes "tech" ∷ player_text new.player ∷ kind_word new.technology.kind ∷ decimal new.level ∷ []

-- `units C UNIT N`
abbrev pub units_words : NewUnits → List (List ℕ)
units_words new = codes "units" ∷ coord_text new.at ∷ kind_word new.unit.kind ∷ decimal new.count ∷ []

-- the line has these words, and is no longer than a line of text may be
pub record IsLineOf (spelled : List (List ℕ)) (line : List ℕ) : Type 0 where
  pub short : length line ≤ LONGEST_LINE
  pub spells : words line ≡ spelled
