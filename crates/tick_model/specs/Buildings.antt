-- How buildings are paid, started and done. Rules: docs/RULES.md, "Costs and durations" and "The building queue".
use Rattle.std.specs.Prelude.{ℕ, ◌+◌, ◌-◌, ◌*◌, List, [], ◌∷◌, Bool, nat_le, ◌&&◌, if◌then◌else◌, slice_set}
use Rattle.catalog.specs.Costs.{Cost}
use Rattle.catalog.specs.Kinds.{place_in}
use Rattle.catalog.specs.declared.classes.TheConstants.{BUILDINGS}
use Rattle.catalog.specs.declared.kind.Kind.{Kind}
use Rattle.catalog.specs.declared.kind.Kind.TheVariants.{Robotics, Nanite}
use Rattle.prices.specs.Durations.{seconds_of}
use Rattle.prices.specs.Prices.{price_of}
use Rattle.prices.specs.declared.duration.Helpers.TheVariants.{Building}
use Rattle.rates.specs.Stock.{whole}
use Rattle.rates.specs.declared.resources.Resources.{Resources}
use Rattle.rates.specs.declared.stock.TheConstants.{GRAINS}
use Rattle.tick_model.specs.Production.{level_of}
use Rattle.tick_model.specs.Universe.{PlanetFields, Own, of_planet, Item}

-- stocks can pay a price if their whole units suffice
unfoldable pub can_pay : Resources → Cost → Bool
can_pay stock price =
    nat_le price.metal (whole stock).metal && nat_le price.crystal (whole stock).crystal && nat_le price.deuterium (whole stock).deuterium

-- a payment takes the grains of the price's units
unfoldable pub paid : Resources → Cost → Resources
paid stock price =
    record {
      metal = stock.metal - GRAINS * price.metal;
      crystal = stock.crystal - GRAINS * price.crystal;
      deuterium = stock.deuterium - GRAINS * price.deuterium;
    }

-- what the next level of a building costs
unfoldable pub next_price : PlanetFields → Kind → Cost
next_price planet kind = price_of kind (level_of planet kind + 1)

-- the seconds that the next level of a building takes, by the levels that the planet has
unfoldable pub next_duration : ℕ → PlanetFields → Kind → ℕ
next_duration speed planet kind =
    let price = next_price planet kind in
    seconds_of price.metal price.crystal (Building (level_of planet Robotics) (level_of planet Nanite)) speed

-- the planet after it has paid for the next level of a building
abbrev pub pays : PlanetFields → Kind → PlanetFields
pays planet kind = record planet { stock = paid planet.stock (next_price planet kind) }

-- an item that starts to run at a second
abbrev pub started : ℕ → ℕ → PlanetFields → Item → Item
started speed second planet item =
    record item { level = level_of planet item.kind + 1; second = second + next_duration speed planet item.kind }

-- a planet and its queue
pub record Works : Type 0 where
  pub planet : PlanetFields
  pub queue : List Item

-- Of items that wait the first one that can be paid is paid and starts. Those before it are dropped.
abbrev pub starts_first : ℕ → ℕ → PlanetFields → List Item → Works
starts_first speed second planet [] = record { planet = planet; queue = [] }
starts_first speed second planet (item ∷ later) =
    if can_pay planet.stock (next_price planet item.kind)
    then record { planet = pays planet item.kind; queue = started speed second planet item ∷ later }
    else starts_first speed second planet later

-- the planet with one more level of a building
unfoldable pub raised : PlanetFields → Kind → PlanetFields
raised planet kind = record planet { levels = slice_set planet.levels (place_in BUILDINGS kind) (level_of planet kind + 1) }

-- what a cell has of its own, and its queue
pub record Built : Type 0 where
  pub own : Own
  pub queue : List Item

-- A building is done: its level rises, and then the first of the items that wait can start.
abbrev pub done : ℕ → Item → List Item → Own → Built
done speed item later (of_planet planet) =
    let works = starts_first speed item.second (raised planet item.kind) later in
    record { own = of_planet works.planet; queue = works.queue }
done speed item later own = record { own = own; queue = [] }
