-- What an event or a request changes.
use Rattle.std.specs.Prelude.{ℕ, List, [], ◌∷◌, ◌++◌, Bool, false, not, ◌&&◌, ◌==◌, Option, Some, filter, filter_map, if◌then◌else◌}
use Rattle.std.specs.List.{list_any}
use Rattle.base_ids.specs.Cells.{same_cell}
use Rattle.base_ids.specs.declared.cell_id.CellId.{CellId}
use Rattle.tick_model.specs.Universe.{Own, QueueClass, same_class, Item, Fleet, State}
use Rattle.tick_model.specs.Views.{View, belongs, stands_in}

-- What is changed of some cells: what they have of their own; the queues that are written anew, with their items; each fleet,
-- which may go; and the fleets that are sent.
pub record Change : Type 0 where
  pub own : CellId → Own
  pub requeued : CellId → QueueClass → Bool
  pub items : List Item
  pub fleet : Fleet → Option Fleet
  pub sent : List Fleet

-- what each cell has of its own, by what is seen of it
abbrev pub owns : (CellId → View) → CellId → Own
owns seen cell = (seen cell).own

-- one cell has something else of its own
abbrev pub put_own : CellId → Own → (CellId → Own) → CellId → Own
put_own cell own others x = if same_cell cell x then own else others x

-- the cells have this of their own, and nothing else is changed
abbrev pub new_owns : (CellId → Own) → Change
new_owns own = record { own = own; requeued = λ _ _. false; items = []; fleet = Some; sent = [] }

-- besides, a queue of a cell is written anew
abbrev pub new_queue : (CellId → Own) → CellId → QueueClass → List Item → Change
new_queue own cell class items = record (new_owns own) { requeued = λ x c. same_cell cell x && same_class class c; items = items }

-- two fleets bear the same number
abbrev pub same_flight : Fleet → Fleet → Bool
same_flight a b = a.number == b.number

-- besides, the fleet of a number changes, or goes
abbrev pub new_fleet : (CellId → Own) → ℕ → (Fleet → Option Fleet) → Change
new_fleet own number became = record (new_owns own) { fleet = λ fleet. if fleet.number == number then became fleet else Some fleet }

-- besides, each of these fleets changes, or goes
abbrev pub new_fleets : (CellId → Own) → List Fleet → (Fleet → Option Fleet) → Change
new_fleets own fleets became =
    record (new_owns own) { fleet = λ fleet. if list_any (same_flight fleet) fleets then became fleet else Some fleet }

-- besides, a fleet is sent
abbrev pub sends_fleet : (CellId → Own) → Fleet → Change
sends_fleet own fleet = record (new_owns own) { sent = fleet ∷ [] }

-- nothing is changed
abbrev pub no_change : (CellId → View) → Change
no_change seen = new_owns (owns seen)

-- a change of these cells is put in place
abbrev pub write : (CellId → Bool) → Change → State → State
write cells change state =
    record state {
      own = λ cell. if cells cell then change.own cell else state.own cell;
      items = filter (λ item. not (change.requeued item.cell item.class)) state.items ++ change.items;
      fleets = filter_map change.fleet state.fleets ++ change.sent;
    }

-- an item stays in its queue
abbrev pub stays_queued : Change → Item → Bool
stays_queued change item = not (change.requeued item.cell item.class)

-- the items of a queue of a cell after a change
abbrev pub queue_after : Change → CellId → QueueClass → List Item → List Item
queue_after change cell class items = filter (stays_queued change) items ++ filter (stands_in cell class) change.items

-- what is seen of a cell after a change, but for how many units an account has
abbrev pub seen_after : Change → CellId → View → View
seen_after change cell seen =
    record seen {
      own = change.own cell;
      queue = λ class. queue_after change cell class (seen.queue class);
      fleets = filter (belongs cell) (filter_map change.fleet seen.fleets) ++ filter (belongs cell) change.sent;
    }
