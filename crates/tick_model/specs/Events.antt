-- The events of a universe, their order, and what each makes of its cells. Rules: docs/RULES.md, "Events" and "What happens in one
-- second".
use Rattle.std.specs.Prelude.{◌≡◌, ℕ, ◌+◌, ◌-◌, List, [], ◌∷◌, ◌++◌, Bool, true, false, ◌||◌, nat_le, Option, None, Some, filter, filter_map, map, sum, sum_by, if◌then◌else◌}
use Rattle.std.specs.List.{list_any}
use Rattle.base_ids.specs.Cells.{same_cell, same_player}
use Rattle.base_ids.specs.Order.{EventKey, key_before}
use Rattle.base_ids.specs.declared.cell_id.CellId.{CellId}
use Rattle.base_ids.specs.declared.cell_id.CellId.TheVariants.{Account, Planet}
use Rattle.base_ids.specs.declared.player.Player.{Player}
use Rattle.tick_model.specs.declared.rules.Rules.{Rules}
use Rattle.tick_model.specs.Battles.{comes_back, fought}
use Rattle.tick_model.specs.Buildings.{done}
use Rattle.tick_model.specs.Changes.{Change, new_fleet, new_fleets, new_queue, no_change, owns, put_own, seen_after, write}
use Rattle.tick_model.specs.Flights.{landed, landing, turns}
use Rattle.tick_model.specs.Raids.{Raid, attacks, raid_of}
use Rattle.tick_model.specs.Researches.{researched}
use Rattle.tick_model.specs.Rules.{IsIn}
use Rattle.tick_model.specs.Universe.{Own, of_planet, QueueClass, Buildings, Researches, Yard, Item, Fleet, Setting, State}
use Rattle.tick_model.specs.Views.{View, belongs, ships_of, shown, view}
use Rattle.tick_model.specs.Yards.{unit_done}

-- An event, as the cell shows it that owes it. The first item of a queue is due, and these stand behind it: a building or a
-- research is done then, and of a batch the next unit. Or a fleet lands, at its target or back at its origin. Or the fleets of a raid
-- fight at their target.
pub data Event : Type 0 where
  item_due : QueueClass → Item → List Item → Event
  lands : Fleet → Event
  fights : Raid → Event

-- the second at which it is due
abbrev pub second_of : Event → ℕ
second_of (item_due class item later) = item.second
second_of (lands fleet) = fleet.second
second_of (fights raid) = raid.second

-- the cell that owes it
abbrev pub home : Event → CellId
home (item_due class item later) = item.cell
home (lands fleet) = Planet (landing fleet)
home (fights raid) = Planet raid.target

-- Of what one request ordered, buildings come first, then research, then units, then a fleet that arrives, then the battle of a group
-- that is named by its number, then a fleet that is back.
abbrev pub step_of : QueueClass → ℕ
step_of Buildings = 1
step_of Researches = 2
step_of Yard = 3

abbrev pub landing_step : Fleet → ℕ
landing_step fleet = if fleet.outbound then 4 else 6

-- what orders it among all events
abbrev pub key_of : Event → EventKey
key_of (item_due class item later) = record { second = item.second; number = item.number; step = step_of class }
key_of (lands fleet) = record { second = fleet.second; number = fleet.number; step = landing_step fleet }
key_of (fights raid) = record { second = raid.second; number = raid.group; step = 5 }

-- A raid is that of a fleet that attacks, among the fleets that belong to its target.
pub record IsRaid (fleets : List Fleet) (raid : Raid) : Type 0 where
  pub one : Fleet
  pub flies : IsIn one fleets
  pub hostile : attacks one ≡ true
  pub is : raid ≡ raid_of fleets one

-- A cell owes an event, by what is seen of it. A fleet that attacks doesn't land.
abbrev pub Owes : View → Event → Type 0
Owes seen (item_due class item later) = seen.queue class ≡ item ∷ later
Owes seen (lands fleet) = IsIn fleet seen.fleets × (attacks fleet ≡ false)
Owes seen (fights raid) = IsRaid seen.fleets raid

-- a cell is a planet that is to pay research that waits
abbrev pub is_payer : QueueClass → List Item → CellId → Bool
is_payer Researches waiting cell = list_any (λ item. same_cell (Planet item.place) cell) waiting
is_payer Buildings waiting cell = false
is_payer Yard waiting cell = false

-- The cells that an event needs and changes: its own, and if a research is done the planets that are to pay those that wait; or all
-- cells of the fleet that lands, or of each fleet that fights.
abbrev pub footprint : Event → CellId → Bool
footprint (item_due class item later) cell = same_cell item.cell cell || is_payer class later cell
footprint (lands fleet) cell = belongs cell fleet
footprint (fights raid) cell = same_cell (Planet raid.target) cell || list_any (belongs cell) raid.fleets

-- what a battle changes, if there is a planet at which it is fought
abbrev pub battle_change : Rules → Raid → (CellId → View) → Own → Change
battle_change rules raid seen (of_planet planet) =
    let came = fought rules.seed (owns seen) raid planet in
    new_fleets (put_own (Planet raid.target) (of_planet came.planet) (owns seen)) raid.fleets (comes_back came.fleets)
battle_change rules raid seen _ = no_change seen

-- what it changes of them, by what is seen of them
abbrev pub event_change : Rules → Event → (CellId → View) → Change
event_change rules (item_due Buildings item later) seen =
    let came = done rules.speed item later (owns seen item.cell) in
    new_queue (put_own item.cell came.own (owns seen)) item.cell Buildings came.queue
event_change rules (item_due Researches item later) seen =
    let came = researched rules.speed item later (owns seen) (owns seen item.cell) in
    new_queue came.own item.cell Researches came.queue
event_change rules (item_due Yard item later) seen =
    let came = unit_done rules.speed item later (owns seen item.cell) in
    new_queue (put_own item.cell came.own (owns seen)) item.cell Yard came.queue
event_change rules (lands fleet) seen =
    let place = Planet (landing fleet) in
    let came = landed fleet (owns seen place) in
    new_fleet (put_own place came.own (owns seen)) fleet.number (turns came.back)
event_change rules (fights raid) seen = battle_change rules raid seen (owns seen (Planet raid.target))

-- how many ships of a player are lost, if this becomes of each of some fleets
abbrev pub ships_lost : Player → (Fleet → Option Fleet) → List Fleet → ℕ
ships_lost player became fleets = sum_by (ships_of player) fleets - sum_by (ships_of player) (filter_map became fleets)

-- how many units of a player are lost on a planet
abbrev pub units_lost : Player → Own → Own → ℕ
units_lost player (of_planet before) (of_planet after) = if same_player before.owner player then sum before.units - sum after.units else 0
units_lost player before after = 0

-- how many units an account loses in a battle
abbrev pub battle_losses : Raid → Change → (CellId → View) → CellId → ℕ
battle_losses raid change seen (Account player) =
    let place = Planet raid.target in
    ships_lost player change.fleet (seen (Account player)).fleets + units_lost player (owns seen place) (change.own place)
battle_losses raid change seen (Planet at) = 0

-- how many units an account has after an event: as many as before, but for those that are lost in a battle
abbrev pub units_left : Event → Change → (CellId → View) → CellId → ℕ → ℕ
units_left (item_due class item later) change seen cell units = units
units_left (lands fleet) change seen cell units = units
units_left (fights raid) change seen cell units = units - battle_losses raid change seen cell

-- what is seen of a cell after an event, by what it changes, by what was seen of the cells that it needs, and by what was seen of this one
abbrev pub seen_after_event : Event → Change → (CellId → View) → CellId → View → View
seen_after_event event change seen cell before =
    record (seen_after change cell before) { units = units_left event change seen cell before.units }

-- an event acts
abbrev pub effect : Setting → Event → State → State
effect setting event state =
    let cells = footprint event in
    write cells (event_change setting.rules event (shown cells (view setting.cells state))) state

-- what the first item of a queue brings
abbrev pub first_due : QueueClass → List Item → List Event
first_due class [] = []
first_due class (item ∷ later) = item_due class item later ∷ []

-- the event to which a fleet comes, among those that belong to the cell where it does: it fights with its group, or lands alone
abbrev pub coming : List Fleet → Fleet → Event
coming fleets fleet = if attacks fleet then fights (raid_of fleets fleet) else lands fleet

-- the events to which the fleets come that arrive at a cell or are back there, among those that belong to it
abbrev pub landings : CellId → List Fleet → List Event
landings cell fleets = map (coming fleets) (filter (λ fleet. same_cell (Planet (landing fleet)) cell) fleets)

-- what the queues of a cell bring
abbrev pub items_owed : View → List Event
items_owed seen = first_due Buildings (seen.queue Buildings) ++ first_due Researches (seen.queue Researches) ++ first_due Yard (seen.queue Yard)

-- the events that a cell owes
abbrev pub owed : CellId → View → List Event
owed cell seen = items_owed seen ++ landings cell seen.fleets

-- those that are due by a second
abbrev pub due_by : ℕ → CellId → View → List Event
due_by second cell seen = filter (λ event. nat_le (second_of event) second) (owed cell seen)

-- the events that are due by a second and that some of these cells owe
abbrev pub due_events : (CellId → Bool) → ℕ → (CellId → View) → List CellId → List Event
due_events some second seen [] = []
due_events some second seen (cell ∷ cells) =
    (if some cell then due_by second cell (seen cell) else []) ++ due_events some second seen cells

-- the first of two events
abbrev pub sooner : Event → Option Event → Event
sooner event None = event
sooner event (Some other) = if key_before (key_of other) (key_of event) then other else event

-- the first of some events
abbrev pub first_event : List Event → Option Event
first_event [] = None
first_event (event ∷ events) = Some (sooner event (first_event events))

-- the first event that is due by a second and that some of these cells owe
abbrev pub next_event : Setting → (CellId → Bool) → ℕ → State → Option Event
next_event setting some second state = first_event (due_events some second (view setting.cells state) setting.cells)
