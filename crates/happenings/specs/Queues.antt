-- The queues of cells that are held, and the events of their first items.
use Rattle.std.specs.Prelude.{List, Option, None, Some}
use Rattle.base_ids.specs.declared.cell_id.CellId.{CellId}
use Rattle.base_ids.specs.declared.cell_id.CellId.TheVariants.{Account as AccountId, Planet as PlanetId}
use Rattle.tick_model.specs.Events.{Event, item_due}
use Rattle.tick_model.specs.Universe.{Item, QueueClass, Buildings as BuildingsClass, Researches as ResearchClass, Yard as YardClass}
use Rattle.tick_model.specs.Views.{View, nothing_seen}
use Rattle.happenings.specs.Held.{Stand, held_at}
use Rattle.happenings.specs.declared.held.Held.{Held}
use Rattle.happenings.specs.declared.queue.Queue.{Queue}
use Rattle.happenings.specs.declared.queue.Queue.TheVariants.{Buildings, Research, Yard}

-- the cell and the class of a queue
abbrev pub home_of : Queue → CellId
home_of (Buildings at) = PlanetId at
home_of (Research player) = AccountId player
home_of (Yard at) = PlanetId at

abbrev pub class_of : Queue → QueueClass
class_of (Buildings at) = BuildingsClass
class_of (Research player) = ResearchClass
class_of (Yard at) = YardClass

-- what is seen of a cell that may be held
abbrev pub seen_of : Option Stand → View
seen_of None = nothing_seen
seen_of (Some stand) = stand.seen

-- what is seen of each cell that is held, and nothing of the others
abbrev pub seen_held : Held → CellId → View
seen_held held cell = seen_of (held_at held cell)

-- the items of a queue that is held
abbrev pub items_held : Held → Queue → List Item
items_held held queue = (seen_held held (home_of queue)).queue (class_of queue)

-- the event of the first item of a queue
abbrev pub event_of : Queue → Item → List Item → Event
event_of queue item later = item_due (class_of queue) item later
