-- How units are paid and built. Rules: docs/RULES.md, "Costs and durations" and "The yard".
use Rattle.std.specs.Prelude.{ℕ, ◌+◌, ◌-◌, ◌*◌, List, [], ◌∷◌, nat_le, if◌then◌else◌, slice_index, slice_set}
use Rattle.catalog.specs.Costs.{Cost}
use Rattle.catalog.specs.Kinds.{place_in}
use Rattle.catalog.specs.declared.classes.TheConstants.{UNIT_KINDS}
use Rattle.catalog.specs.declared.kind.Kind.{Kind}
use Rattle.catalog.specs.declared.kind.Kind.TheVariants.{Nanite, Shipyard}
use Rattle.prices.specs.Durations.{seconds_of}
use Rattle.prices.specs.Prices.{price_of}
use Rattle.prices.specs.declared.duration.Helpers.TheVariants.{Yard}
use Rattle.tick_model.specs.Buildings.{Built, paid}
use Rattle.tick_model.specs.Production.{level_of}
use Rattle.tick_model.specs.Universe.{PlanetFields, Own, of_planet, Item}

-- what so many units of a kind cost
unfoldable pub batch_price : Kind → ℕ → Cost
batch_price kind count =
    let one = price_of kind 1 in
    record { metal = count * one.metal; crystal = count * one.crystal; deuterium = count * one.deuterium }

-- the seconds that one unit of a kind takes, by the levels that the planet has
unfoldable pub unit_duration : ℕ → PlanetFields → Kind → ℕ
unit_duration speed planet kind =
    let price = price_of kind 1 in
    seconds_of price.metal price.crystal (Yard (level_of planet Shipyard) (level_of planet Nanite)) speed

-- the planet after it has paid for a batch
abbrev pub pays_batch : PlanetFields → Kind → ℕ → PlanetFields
pays_batch planet kind count = record planet { stock = paid planet.stock (batch_price kind count) }

-- a batch becomes the first of a yard at a second: only then is it fixed how long each of its units takes
abbrev pub begun : ℕ → ℕ → PlanetFields → Item → Item
begun speed second planet batch =
    let seconds = unit_duration speed planet batch.kind in
    record batch { unit_seconds = seconds; second = second + seconds }

abbrev pub begins_first : ℕ → ℕ → PlanetFields → List Item → List Item
begins_first speed second planet [] = []
begins_first speed second planet (batch ∷ later) = begun speed second planet batch ∷ later

-- how many units of a kind stand on a planet
unfoldable pub count_of : PlanetFields → Kind → ℕ
count_of planet kind = slice_index planet.units (place_in UNIT_KINDS kind)

-- the planet with so many more units of a kind
unfoldable pub manned : PlanetFields → Kind → ℕ → PlanetFields
manned planet kind count = record planet { units = slice_set planet.units (place_in UNIT_KINDS kind) (count_of planet kind + count) }

-- what is left of a yard when a unit of its first batch is done: the batch, or if that was the last one those behind it
abbrev pub yard_left : ℕ → PlanetFields → Item → List Item → List Item
yard_left speed planet batch later =
    if nat_le batch.left 1
    then begins_first speed batch.second planet later
    else record batch { left = batch.left - 1; second = batch.second + batch.unit_seconds } ∷ later

-- A unit is done: it stands on the planet at once.
abbrev pub unit_done : ℕ → Item → List Item → Own → Built
unit_done speed batch later (of_planet planet) =
    record { own = of_planet (manned planet batch.kind 1); queue = yard_left speed planet batch later }
unit_done speed batch later own = record { own = own; queue = [] }
