-- What an event makes of the cells that are held. Rules: docs/RULES.md, "Events" and "What happens in one second".
use Rattle.std.specs.Prelude.{◌≡◌, ◌-◌, ◌≤◌, ℕ, true, List, ◌∷◌, Option, IfSome, option_map, if◌then◌else◌}
use Rattle.base_ids.specs.declared.cell_id.CellId.{CellId}
use Rattle.planet_cell.specs.Planet.{fields_of}
use Rattle.ports.specs.declared.clock.TheConstants.{LATEST}
use Rattle.rates.specs.Times.{times}
use Rattle.tick_model.specs.Changes.{Change}
use Rattle.tick_model.specs.Events.{Event, event_change, footprint, second_of, seen_after_event}
use Rattle.tick_model.specs.Production.{planet_second}
use Rattle.tick_model.specs.Universe.{Item, PlanetFields}
use Rattle.tick_model.specs.Views.{View, shown}
use Rattle.tick_model.specs.declared.rules.Rules.{Rules}
use Rattle.happenings.specs.Gaining.{gained, gained_at}
use Rattle.happenings.specs.Held.{Stand, held_at}
use Rattle.happenings.specs.Landings.{HaveOwnFleets}
use Rattle.happenings.specs.Queues.{event_of, items_held, seen_of}
use Rattle.happenings.specs.Happening.{IsOwed}
use Rattle.happenings.specs.declared.due.Due.{Due}
use Rattle.happenings.specs.declared.happening.Happening.{Happening}
use Rattle.happenings.specs.declared.held.Held.{Held}
use Rattle.happenings.specs.declared.held.PlanetCell.{PlanetCell}

-- An item can be finished: the first item of a queue that is held is due, and no cell that is held and that its event needs stands
-- later. The cells have only fleets that belong to them.
pub record CanFinish (held : Held) (due : Due) : Type 0 where
  pub item : Item
  pub later : List Item
  pub owed : items_held held due.queue ≡ item ∷ later
  pub second : item.second ≡ due.second
  pub in_time : due.second ≤ LATEST
  pub behind : (cell : CellId) → footprint (event_of due.queue item later) cell ≡ true → IfSome (held_at held cell) (λ stand. stand.second ≤ due.second)
  pub own_fleets : HaveOwnFleets held

-- what is seen of the cells that an event needs, once they have gained until its second
abbrev pub seen_then : Rules → Event → Held → CellId → View
seen_then rules event held = shown (footprint event) (λ cell. seen_of (gained_at rules (second_of event) held cell))

-- what an event changes of them
abbrev pub change_then : Rules → Event → Held → Change
change_then rules event held = event_change rules event (seen_then rules event held)

-- a cell that an event needs, after the event
abbrev pub stand_after : Rules → Event → Held → CellId → Stand → Stand
stand_after rules event held cell stand =
    record { second = second_of event; seen = seen_after_event event (change_then rules event held) (seen_then rules event held) cell (gained rules (second_of event) stand).seen }

-- what is held of a cell after an event
abbrev pub held_after : Rules → Event → Held → CellId → Option Stand
held_after rules event held cell =
    if footprint event cell then option_map (stand_after rules event held cell) (held_at held cell) else held_at held cell

-- the event of the first item of this queue has happened
abbrev pub Finishes : Rules → Due → Held → Held → Type 0
Finishes rules due old new =
    (item : Item) (later : List Item) → items_held old due.queue ≡ item ∷ later → (cell : CellId) → held_at new cell ≡ held_after rules (event_of due.queue item later) old cell

-- what happens is this event, and it has happened
abbrev pub Happens : Rules → Happening → Held → Held → Type 0
Happens rules what old new = (event : Event) → IsOwed old what event → (cell : CellId) → held_at new cell ≡ held_after rules event old cell

-- what a planet that is held has of its own, once it has gained until a second
abbrev pub fields_then : Rules → ℕ → PlanetCell → PlanetFields
fields_then rules second cell = times (second - cell.second) (planet_second rules.speed) (fields_of cell.planet)
