-- The lines that show a planet, an account and fleets. Rules: docs/PROTOCOL.md, "The lines of a planet", "The lines of an account" and
-- "The lines of fleets and systems".
use Rattle.std.specs.Prelude.{ℕ, ◌+◌, List, [], ◌∷◌, ◌++◌, filter, length, if◌then◌else◌}
use Rattle.base_ids.specs.Cells.{same_player}
use Rattle.base_ids.specs.declared.coord.Coord.{Coord}
use Rattle.base_ids.specs.declared.player.Player.{Player}
use Rattle.catalog.specs.Technologies.{level_in}
use Rattle.catalog.specs.declared.kind.Kind.TheVariants.{Computer}
use Rattle.rates.specs.Stock.{whole}
use Rattle.rates.specs.declared.resources.Resources.{Resources}
use Rattle.rates.specs.declared.works.Hourly.{Hourly}
use Rattle.reply_text.specs.AccountLines.{account_line, own_planet_line, tech_lines}
use Rattle.reply_text.specs.FleetLines.{fleet_line}
use Rattle.reply_text.specs.PlanetLines.{debris_line, energy_line, hourly_line, level_lines, limit_line, planet_line, set_lines, stock_line, unit_lines}
use Rattle.reply_text.specs.QueueLines.{building_line, research_line, waiting_building_line, waiting_research_line, yard_line, yard_waiting_line}
use Rattle.reply_text.specs.declared.fleet_lines.FleetLine.{FleetLine}
use Rattle.reply_text.specs.declared.fleet_lines.Stage.TheVariants.{Out, Back}
use Rattle.reply_text.specs.declared.planet_lines.PlanetHead.{PlanetHead}
use Rattle.reply_text.specs.declared.queue_lines.RunningBatch.{RunningBatch}
use Rattle.reply_text.specs.declared.queue_lines.RunningBuilding.{RunningBuilding}
use Rattle.reply_text.specs.declared.queue_lines.RunningResearch.{RunningResearch}
use Rattle.reply_text.specs.declared.units.Units.{Units}
use Rattle.tick_model.specs.Production.{limits_of, yields_of}
use Rattle.tick_model.specs.Refusals.{used_fields}
use Rattle.tick_model.specs.Universe.{AccountFields, Buildings, Fleet, Item, PlanetFields, QueueClass, Researches, Yard}
use Rattle.tick_model.specs.Views.{View}

abbrev pub units_of : Resources → Units
units_of amounts = record { metal = amounts.metal; crystal = amounts.crystal; deuterium = amounts.deuterium }

abbrev pub yield_of : Hourly → Units
yield_of hourly = record { metal = hourly.metal; crystal = hourly.crystal; deuterium = hourly.deuterium }

-- what the first line of a planet shows
abbrev pub head_of : Coord → PlanetFields → PlanetHead
head_of at planet =
    record { at = at; owner = planet.owner; temperature = planet.temperature; fields = planet.fields; used = used_fields planet }

abbrev pub running_building : Item → RunningBuilding
running_building item = record { number = item.number; kind = item.kind; level = item.level; second = item.second }

abbrev pub running_research : Item → RunningResearch
running_research item = record { number = item.number; kind = item.kind; level = item.level; second = item.second; at = item.place }

abbrev pub running_batch : Item → RunningBatch
running_batch item = record { number = item.number; kind = item.kind; left = item.left; second = item.second }

-- the line of the first item of a queue
abbrev pub first_line : QueueClass → Item → List ℕ
first_line Buildings item = building_line (running_building item)
first_line Researches item = research_line (running_research item)
first_line Yard item = yard_line (running_batch item)

-- the line of an item that waits
abbrev pub waiting_line : QueueClass → Item → List ℕ
waiting_line Buildings item = waiting_building_line item.number item.kind
waiting_line Researches item = waiting_research_line item.number item.kind item.place
waiting_line Yard item = yard_waiting_line item.number item.kind item.left

-- a line for each item that waits
abbrev pub waiting_lines : QueueClass → List Item → List ℕ
waiting_lines class [] = []
waiting_lines class (item ∷ later) = waiting_line class item ++ waiting_lines class later

-- the first item of a queue, and those that wait
abbrev pub queue_lines : QueueClass → List Item → List ℕ
queue_lines class [] = []
queue_lines class (item ∷ later) = first_line class item ++ waiting_lines class later

-- The planet itself; in whole units its stocks, what it yields an hour and what it stores; the energy given and needed; the debris;
-- its levels, tenths and units; and its queues.
unfoldable pub planet_text : ℕ → Coord → PlanetFields → (QueueClass → List Item) → List ℕ
planet_text speed at planet queue =
    planet_line (head_of at planet)
    ++ stock_line (units_of (whole planet.stock))
    ++ hourly_line (yield_of (yields_of speed planet))
    ++ limit_line (units_of (limits_of planet))
    ++ energy_line (yields_of speed planet).given (yields_of speed planet).need
    ++ debris_line planet.debris.metal planet.debris.crystal
    ++ level_lines planet.levels
    ++ set_lines planet.tenths
    ++ unit_lines planet.units
    ++ queue_lines Buildings (queue Buildings)
    ++ queue_lines Yard (queue Yard)

-- how many fleets an account may have: one, and one for each level of computer technology
abbrev pub slots_of : AccountFields → ℕ
slots_of account = 1 + level_in account.techs.n Computer

-- the fleets of a player
abbrev pub own_fleets : Player → List Fleet → List Fleet
own_fleets player fleets = filter (λ fleet. same_player fleet.owner player) fleets

-- what the line of a fleet shows
abbrev pub flight_of : Fleet → FleetLine
flight_of fleet =
    record {
      number = fleet.number;
      group = fleet.group;
      mission = fleet.mission;
      from = fleet.origin;
      to = fleet.target;
      stage = if fleet.outbound then Out else Back;
      second = fleet.second;
      cargo = fleet.cargo;
      ships = fleet.ships;
    }

-- a line for each fleet
abbrev pub fleet_lines : List Fleet → List ℕ
fleet_lines [] = []
fleet_lines (fleet ∷ later) = fleet_line (flight_of fleet) ++ fleet_lines later

-- a line for each planet of an account
abbrev pub own_planet_lines : List Coord → List ℕ
own_planet_lines [] = []
own_planet_lines (at ∷ later) = own_planet_line at ++ own_planet_lines later

-- the account itself, its technologies, its planets and its research
unfoldable pub account_text : Player → AccountFields → View → List ℕ
account_text player account seen =
    account_line (record { player = player; units = seen.units; fleets = length (own_fleets player seen.fleets); slots = slots_of account })
    ++ tech_lines account.techs.n
    ++ own_planet_lines seen.planets
    ++ queue_lines Researches (seen.queue Researches)
