-- What becomes of the building queue of a planet. Rule: docs/RULES.md, "The building queue".
use Rattle.std.specs.Prelude.{ℕ, ◌+◌, ◌<◌, ◌≤◌, List, [], ◌∷◌, ◌++◌, IsTrue, length}
use Rattle.base_ids.specs.declared.cell_id.CellId.TheVariants.{Planet as PlanetId}
use Rattle.base_ids.specs.declared.coord.Coord.{Coord}
use Rattle.catalog.specs.Levels.{level_cap_of}
use Rattle.catalog.specs.declared.kind.Kind.{Kind}
use Rattle.planet_cell.specs.Planet.{fields_of, buildings_of}
use Rattle.planet_cell.specs.declared.building_item.BuildingItem.{BuildingItem}
use Rattle.planet_cell.specs.declared.planet.Planet.{Planet}
use Rattle.ports.specs.declared.clock.TheConstants.{LATEST}
use Rattle.tick_model.specs.declared.codes.TheConstants.{MOST_QUEUED}
use Rattle.tick_model.specs.declared.placed.Placed.{Placed}
use Rattle.tick_model.specs.declared.placed.Placed.TheVariants.{Starts, Waits}
use Rattle.tick_model.specs.Buildings.{Built, Works, can_pay, done, next_duration, next_price, pays, started}
use Rattle.tick_model.specs.Production.{level_of}
use Rattle.tick_model.specs.Refusals.{is_empty, queued}
use Rattle.tick_model.specs.Universe.{Buildings, Item, PlanetFields, of_planet}

-- a planet and its queue
abbrev pub works_of : Planet → Works
works_of planet = record { planet = fields_of planet; queue = buildings_of planet }

-- what a planet has of its own and its queue
abbrev pub built_of : Planet → Built
built_of planet = record { own = of_planet (fields_of planet); queue = buildings_of planet }

-- a building runs, and is done at a second that a clock can tell
abbrev pub Runs : List BuildingItem → Type 0
Runs [] = ⊥
Runs (first ∷ later) = first.second ≤ LATEST

-- the building that runs is done
abbrev pub finished : ℕ → PlanetFields → List Item → Built
finished speed planet [] = record { own = of_planet planet; queue = [] }
finished speed planet (first ∷ later) = done speed first later (of_planet planet)

-- A planet can take an order: the queue has room, the building can still rise, and it can be paid if it starts at once.
pub record CanTake (planet : PlanetFields) (items : List Item) (kind : Kind) : Type 0 where
  pub room : length items < MOST_QUEUED
  pub level : level_of planet kind + queued kind items < level_cap_of kind
  pub payable : IsTrue (is_empty items) → IsTrue (can_pay planet.stock (next_price planet kind))

-- an item that is ordered at a place, and whose number isn't drawn yet
abbrev pub new_item : Coord → Kind → Item
new_item at kind =
    record { number = 0; cell = PlanetId at; class = Buildings; kind = kind; place = at; level = 0; left = 0; unit_seconds = 0; second = 0 }

-- An order in an empty queue is paid and starts at once; else it waits.
abbrev pub ordered : ℕ → ℕ → PlanetFields → List Item → Item → Works
ordered speed moment planet [] item = record { planet = pays planet item.kind; queue = started speed moment planet item ∷ [] }
ordered speed moment planet (first ∷ later) item = record { planet = planet; queue = (first ∷ later) ++ item ∷ [] }

-- what is told of an order: the level and the second at which it is reached, or the place in the queue
abbrev pub placed : ℕ → ℕ → PlanetFields → List Item → Kind → Placed
placed speed moment planet [] kind = Starts (level_of planet kind + 1) (moment + next_duration speed planet kind)
placed speed moment planet (first ∷ later) kind = Waits (length (first ∷ later) + 1)

-- the last item of a queue has this number
abbrev pub numbered : ℕ → List Item → List Item
numbered number [] = []
numbered number (item ∷ []) = record item { number = number } ∷ []
numbered number (item ∷ next ∷ later) = item ∷ numbered number (next ∷ later)
