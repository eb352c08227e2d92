-- How technologies are paid, started and done. Rules: docs/RULES.md, "Costs and durations" and "The research queue".
use Rattle.std.specs.Prelude.{ℕ, ◌+◌, ◌==◌, List, [], ◌∷◌, Bool, true, false, nat_le, ◌&&◌, if◌then◌else◌, slice_set}
use Rattle.base_ids.specs.declared.cell_id.CellId.{CellId}
use Rattle.base_ids.specs.declared.cell_id.CellId.TheVariants.{Planet}
use Rattle.catalog.specs.Costs.{Cost}
use Rattle.catalog.specs.Kinds.{kind_number, place_in}
use Rattle.catalog.specs.Technologies.{level_in}
use Rattle.catalog.specs.declared.classes.TheConstants.{TECHNOLOGIES}
use Rattle.catalog.specs.declared.kind.Kind.{Kind}
use Rattle.catalog.specs.declared.kind.Kind.TheVariants.{Graviton, Lab}
use Rattle.catalog.specs.declared.need.TheConstants.{GRAVITON_ENERGY}
use Rattle.prices.specs.Durations.{seconds_of}
use Rattle.prices.specs.Prices.{price_of}
use Rattle.prices.specs.declared.duration.Helpers.TheVariants.{Research}
use Rattle.tick_model.specs.Buildings.{can_pay, paid}
use Rattle.tick_model.specs.Changes.{put_own}
use Rattle.tick_model.specs.Production.{level_of, yields_of}
use Rattle.tick_model.specs.Universe.{AccountFields, PlanetFields, Own, of_account, of_planet, Item}

-- what the next level of a technology costs
unfoldable pub research_price : AccountFields → Kind → Cost
research_price account kind = price_of kind (level_in account.techs.n kind + 1)

-- the seconds that it takes, in the lab of a planet
unfoldable pub research_duration : ℕ → AccountFields → PlanetFields → Kind → ℕ
research_duration speed account planet kind =
    let price = research_price account kind in
    seconds_of price.metal price.crystal (Research (level_of planet Lab)) speed

-- a planet gives the energy that a technology takes: only graviton takes any
unfoldable pub gives_energy : ℕ → PlanetFields → Kind → Bool
gives_energy speed planet kind =
    if kind_number kind == kind_number Graviton then nat_le GRAVITON_ENERGY (yields_of speed planet).given else true

-- the planet after it has paid for the next level of a technology
abbrev pub pays_research : AccountFields → PlanetFields → Kind → PlanetFields
pays_research account planet kind = record planet { stock = paid planet.stock (research_price account kind) }

-- an item that starts to run at a second, in the lab of its planet
abbrev pub started_research : ℕ → ℕ → AccountFields → PlanetFields → Item → Item
started_research speed second account planet item =
    record item { level = level_in account.techs.n item.kind + 1; second = second + research_duration speed account planet item.kind }

-- the account with one more level of a technology
unfoldable pub learned : AccountFields → Kind → AccountFields
learned account kind = record account { techs = record { n = slice_set account.techs.n (place_in TECHNOLOGIES kind) (level_in account.techs.n kind + 1) } }

-- an item can start: its planet can pay it, and gives the energy that it takes
abbrev pub can_start : ℕ → AccountFields → Own → Item → Bool
can_start speed account (of_planet planet) item = can_pay planet.stock (research_price account item.kind) && gives_energy speed planet item.kind
can_start speed account _ item = false

-- what cells have of their own, and a research queue
pub record Researching : Type 0 where
  pub own : CellId → Own
  pub queue : List Item

-- an item is paid by its planet and starts; others wait behind it
abbrev pub starts_research : ℕ → ℕ → AccountFields → (CellId → Own) → Own → Item → List Item → Researching
starts_research speed second account own (of_planet planet) item later =
    record {
      own = put_own (Planet item.place) (of_planet (pays_research account planet item.kind)) own;
      queue = started_research speed second account planet item ∷ later;
    }
starts_research speed second account own _ item later = record { own = own; queue = [] }

-- Of items that wait the first one that can start is paid and starts. Those before it are dropped.
abbrev pub starts_first_research : ℕ → ℕ → AccountFields → (CellId → Own) → List Item → Researching
starts_first_research speed second account own [] = record { own = own; queue = [] }
starts_first_research speed second account own (item ∷ later) =
    if can_start speed account (own (Planet item.place)) item
    then starts_research speed second account own (own (Planet item.place)) item later
    else starts_first_research speed second account own later

-- A research is done: the account knows one more level, and then the first of the items that wait can start.
abbrev pub researched : ℕ → Item → List Item → (CellId → Own) → Own → Researching
researched speed item later own (of_account account) =
    let account = learned account item.kind in
    starts_first_research speed item.second account (put_own item.cell (of_account account) own) later
researched speed item later own _ = record { own = own; queue = [] }
