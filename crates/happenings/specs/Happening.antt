-- What happens among cells that are held, as an event of the game, and what happens first. Rule: docs/RULES.md, "Events".
use Rattle.std.specs.Prelude.{◌≡◌, ℕ, ◌<◌, ◌≤◌, false, List, ◌∷◌, Option, None, Some, if◌then◌else◌}
use Rattle.base_ids.specs.Order.{EventKey, key_before}
use Rattle.base_ids.specs.declared.cell_id.CellId.TheVariants.{Planet as PlanetId}
use Rattle.fleet_rec.specs.Fleet.{fleet_seen}
use Rattle.fleet_rec.specs.Fleets.{coming_key}
use Rattle.fleet_rec.specs.declared.fleet.Fleet.{Fleet as FleetRecord}
use Rattle.tick_model.specs.Events.{Event, coming, key_of}
use Rattle.tick_model.specs.Flights.{landing}
use Rattle.tick_model.specs.Universe.{Fleet, Item}
use Rattle.happenings.specs.Due.{key_at}
use Rattle.happenings.specs.Landings.{LandsIn}
use Rattle.happenings.specs.Queues.{event_of, items_held, seen_held}
use Rattle.happenings.specs.declared.due.Due.{Due}
use Rattle.happenings.specs.declared.happening.Happening.{Happening}
use Rattle.happenings.specs.declared.happening.Happening.TheVariants.{Item as ItemDue, Coming}
use Rattle.happenings.specs.declared.held.Held.{Held}
use Rattle.happenings.specs.declared.queue.Queue.{Queue}

-- the second at which it happens
abbrev pub second_at : Happening → ℕ
second_at (ItemDue due) = due.second
second_at (Coming fleet) = fleet.second

-- what orders that to which a fleet comes
abbrev pub coming_key_of : FleetRecord → EventKey
coming_key_of fleet = coming_key (fleet_seen fleet)

-- what comes first of an item and a fleet, each of which may be missing
abbrev pub first_of_two : Option Due → Option FleetRecord → Option Happening
first_of_two None None = None
first_of_two None (Some fleet) = Some (Coming fleet)
first_of_two (Some due) None = Some (ItemDue due)
first_of_two (Some due) (Some fleet) = if key_before (coming_key_of fleet) (key_at due) then Some (Coming fleet) else Some (ItemDue due)

-- The event is that of the first item of a queue that is held.
pub record IsItemOwed (held : Held) (due : Due) (event : Event) : Type 0 where
  pub item : Item
  pub later : List Item
  pub owed : items_held held due.queue ≡ item ∷ later
  pub second : item.second ≡ due.second
  pub is : event ≡ event_of due.queue item later

-- the event to which a fleet comes, by the fleets of the planet to which it comes
abbrev pub coming_in : Held → Fleet → Event
coming_in held fleet = coming (seen_held held (PlanetId (landing fleet))).fleets fleet

-- The event is that to which a fleet comes at a planet that is held.
pub record IsComingOwed (held : Held) (fleet : FleetRecord) (event : Event) : Type 0 where
  pub owed : LandsIn held (fleet_seen fleet)
  pub is : event ≡ coming_in held (fleet_seen fleet)

-- what happens is this event, and the cells owe it
abbrev pub IsOwed : Held → Happening → Event → Type 0
IsOwed held (ItemDue due) event = IsItemOwed held due event
IsOwed held (Coming fleet) event = IsComingOwed held fleet event

-- What happens is due by a moment, and of what the cells owe by then nothing comes before it.
pub record IsFirstDue (held : Held) (moment : ℕ) (what : Happening) : Type 0 where
  pub event : Event
  pub owed : IsOwed held what event
  pub due_by : second_at what ≤ moment
  pub items : (queue : Queue) (item : Item) (later : List Item) → items_held held queue ≡ item ∷ later → item.second ≤ moment
      → key_before (key_of (event_of queue item later)) (key_of event) ≡ false
  pub fleets : (fleet : Fleet) → LandsIn held fleet → fleet.second ≤ moment → key_before (coming_key fleet) (key_of event) ≡ false

-- By a moment no item is due, and no fleet comes.
pub record IsNothingDue (held : Held) (moment : ℕ) : Type 0 where
  pub items : (queue : Queue) (item : Item) (later : List Item) → items_held held queue ≡ item ∷ later → moment < item.second
  pub fleets : (fleet : Fleet) → LandsIn held fleet → moment < fleet.second

-- The fleet comes by a moment, and of those that come by then to planets that are held none comes before it.
pub record IsFirstComing (held : Held) (moment : ℕ) (first_one : FleetRecord) : Type 0 where
  pub owed : LandsIn held (fleet_seen first_one)
  pub due_by : first_one.second ≤ moment
  pub first : (fleet : Fleet) → LandsIn held fleet → fleet.second ≤ moment → key_before (coming_key fleet) (coming_key_of first_one) ≡ false

-- no fleet comes by a moment
abbrev pub IsNoneComing : Held → ℕ → Type 0
IsNoneComing held moment = (fleet : Fleet) → LandsIn held fleet → moment < fleet.second
