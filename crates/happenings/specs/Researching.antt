-- Research that is done, and the planets that pay what comes next. Rule: docs/RULES.md, "The research queue".
use Rattle.std.specs.Prelude.{◌≡◌, ◌≤◌, ℕ, Bool, true, List, ◌∷◌, map, Option, None, Some, IfSome, option_map, if◌then◌else◌}
use Rattle.std.specs.BTreeMap.{get, BTreeMap}
use Rattle.std.specs.List.{list_any}
use Rattle.account_cell.specs.Account.{account_fields, research_item, research_of}
use Rattle.account_cell.specs.declared.account.Account.{Account}
use Rattle.account_cell.specs.declared.research_item.ResearchItem.{ResearchItem}
use Rattle.base_ids.specs.Cells.{same_coord}
use Rattle.base_ids.specs.declared.cell_id.CellId.{CellId}
use Rattle.base_ids.specs.declared.cell_id.CellId.TheVariants.{Planet as PlanetId}
use Rattle.base_ids.specs.declared.coord.Coord.{Coord}
use Rattle.catalog.specs.Costs.{Cost}
use Rattle.planet_cell.specs.Planet.{fields_of}
use Rattle.tick_model.specs.Buildings.{can_pay, paid}
use Rattle.tick_model.specs.Researches.{Researching, learned, starts_first_research}
use Rattle.tick_model.specs.Universe.{Own, of_nothing, of_planet}
use Rattle.tick_model.specs.declared.rules.Rules.{Rules}
use Rattle.happenings.specs.Gaining.{gained}
use Rattle.happenings.specs.Held.{Stand, planet_stand}
use Rattle.happenings.specs.Orders.{place_order}
use Rattle.happenings.specs.declared.held.PlanetCell.{PlanetCell}

-- planets by their places
abbrev pub Planets : Type 0
Planets = BTreeMap Coord PlanetCell

-- each planet is kept under its own place
abbrev pub ArePlaced : Planets → Type 0
ArePlaced planets = (at : Coord) → IfSome (get place_order planets at) (λ cell. cell.planet.at ≡ at)

-- what is held of the planet at a place
abbrev pub stand_in : Planets → Coord → Option Stand
stand_in planets at = option_map planet_stand (get place_order planets at)

-- what a planet that may be held has of its own
abbrev pub own_held : Option PlanetCell → Own
own_held None = of_nothing
own_held (Some cell) = of_planet (fields_of cell.planet)

-- some item is to be paid by the planet at a place
abbrev pub pays_some : List ResearchItem → Coord → Bool
pays_some items at = list_any (λ item. same_coord item.at at) items

-- what these planets have of their own that are to pay items
abbrev pub AreOwns : List ResearchItem → (CellId → Own) → Planets → Type 0
AreOwns items own planets = (at : Coord) → pays_some items at ≡ true → own (PlanetId at) ≡ own_held (get place_order planets at)

-- none of the planets that are to pay items stands later than a second
abbrev pub PayersBehind : List ResearchItem → ℕ → Planets → Type 0
PayersBehind items second planets = (at : Coord) → pays_some items at ≡ true → IfSome (get place_order planets at) (λ cell. cell.second ≤ second)

-- the planet at a place has gained until a second, if it is held, and all others are as before
abbrev pub GainsAt : Rules → ℕ → Coord → Planets → Planets → Type 0
GainsAt rules second at old new =
    (place : Coord) → stand_in new place ≡ (if same_coord at place then option_map (gained rules second) (stand_in old place) else stand_in old place)

-- so have all planets that are to pay items
abbrev pub PayersGain : Rules → ℕ → List ResearchItem → Planets → Planets → Type 0
PayersGain rules second items old new =
    (at : Coord) → stand_in new at ≡ (if pays_some items at then option_map (gained rules second) (stand_in old at) else stand_in old at)

-- the same, with something else of its own
abbrev pub with_own : Own → Stand → Stand
with_own own stand = record stand { seen = record stand.seen { own = own } }

-- the planets that are to pay items have this of their own, and all else is as before
abbrev pub HaveOwns : List ResearchItem → (CellId → Own) → Planets → Planets → Type 0
HaveOwns items own old new =
    (at : Coord) → stand_in new at ≡ (if pays_some items at then option_map (with_own (own (PlanetId at))) (stand_in old at) else stand_in old at)

-- a planet that is there can pay a price
abbrev pub HasPayer : Cost → Option PlanetCell → Type 0
HasPayer price None = ⊥
HasPayer price (Some cell) = can_pay (fields_of cell.planet).stock price ≡ true

-- the planet at a place has paid, and all others are as before
abbrev pub Pays : Cost → Coord → Planets → Planets → Type 0
Pays price at old new =
    (cell : PlanetCell) → get place_order old at ≡ Some cell → (place : Coord)
    → stand_in new place
    ≡ (if same_coord at place then Some (with_own (of_planet (record (fields_of cell.planet) { stock = paid (fields_of cell.planet).stock price })) (planet_stand cell)) else stand_in old place)

-- the first of the items that wait that can start has started, by what the planets have, and its planet has paid
abbrev pub came_first : ℕ → ℕ → Account → (CellId → Own) → Researching
came_first speed second account own = starts_first_research speed second (account_fields account) own (research_of account)

-- The research of an account is done: the level of its technology has risen, the planets that are to pay what waits have gained until
-- then, and the first item that can start has started.
pub record FinishesResearch (rules : Rules) (second : ℕ) (old new : Account) (olds news : Planets) : Type 0 where
  pub item : ResearchItem
  pub later : List ResearchItem
  pub items : old.research.items ≡ item ∷ later
  pub between : Planets
  pub gains : PayersGain rules second later olds between
  pub fields : account_fields new ≡ learned (account_fields old) item.kind.kind
  pub research : (own : CellId → Own) → AreOwns later own between
      → research_of new ≡ (starts_first_research rules.speed second (account_fields new) own (map (research_item new.player) later)).queue
  pub planets : (own : CellId → Own) → AreOwns later own between
      → HaveOwns later (starts_first_research rules.speed second (account_fields new) own (map (research_item new.player) later)).own between news
