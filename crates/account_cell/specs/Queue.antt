-- What becomes of the research queue of an account. Rule: docs/RULES.md, "The research queue".
use Rattle.std.specs.Prelude.{ℕ, ◌+◌, ◌<◌, List, [], ◌∷◌, ◌++◌, length}
use Rattle.base_ids.specs.declared.cell_id.CellId.TheVariants.{Account as AccountId}
use Rattle.base_ids.specs.declared.coord.Coord.{Coord}
use Rattle.base_ids.specs.declared.player.Player.{Player}
use Rattle.catalog.specs.Levels.{level_cap_of}
use Rattle.catalog.specs.Technologies.{level_in}
use Rattle.catalog.specs.declared.kind.Kind.{Kind}
use Rattle.tick_model.specs.Refusals.{queued}
use Rattle.tick_model.specs.Researches.{research_duration, started_research}
use Rattle.tick_model.specs.Universe.{AccountFields, Item, PlanetFields, Researches}
use Rattle.tick_model.specs.declared.codes.TheConstants.{MOST_QUEUED}
use Rattle.tick_model.specs.declared.placed.Placed.{Placed}
use Rattle.tick_model.specs.declared.placed.Placed.TheVariants.{Starts, Waits}

-- An account can order a technology: the queue has room, and the technology can still rise.
pub record CanOrder (account : AccountFields) (items : List Item) (kind : Kind) : Type 0 where
  pub room : length items < MOST_QUEUED
  pub level : level_in account.techs.n kind + queued kind items < level_cap_of kind

-- an item that a player orders on the planet at a place, and whose number isn't drawn yet
abbrev pub new_research : Player → Coord → Kind → Item
new_research player at kind =
    record { number = 0; cell = AccountId player; class = Researches; kind = kind; place = at; level = 0; left = 0; unit_seconds = 0; second = 0 }

-- an order in an empty queue starts at once, in the lab of a planet; else it waits
abbrev pub research_ordered : ℕ → ℕ → AccountFields → PlanetFields → List Item → Item → List Item
research_ordered speed moment account planet [] item = started_research speed moment account planet item ∷ []
research_ordered speed moment account planet (first ∷ later) item = (first ∷ later) ++ item ∷ []

-- what is told of an order: the level and the second at which it is reached, or the place in the queue
abbrev pub research_placed : ℕ → ℕ → AccountFields → PlanetFields → List Item → Kind → Placed
research_placed speed moment account planet [] kind =
    Starts (level_in account.techs.n kind + 1) (moment + research_duration speed account planet kind)
research_placed speed moment account planet (first ∷ later) kind = Waits (length (first ∷ later) + 1)

-- the first item of a queue starts at a second, in the lab of a planet
abbrev pub first_started : ℕ → ℕ → AccountFields → PlanetFields → List Item → List Item
first_started speed second account planet [] = []
first_started speed second account planet (item ∷ later) = started_research speed second account planet item ∷ later

-- the last item of a queue has this number
abbrev pub numbered : ℕ → List Item → List Item
numbered number [] = []
numbered number (item ∷ []) = record item { number = number } ∷ []
numbered number (item ∷ next ∷ later) = item ∷ numbered number (next ∷ later)
