-- The number of an item that was ordered, or of a fleet that was sent. Rules: docs/RULES.md, "The building queue", "The research queue",
-- "The yard" and "Fleets".
use Rattle.std.specs.Prelude.{◌≡◌, ℕ, Bool, Option, None, Some, option_map, if◌then◌else◌}
use Rattle.base_ids.specs.Cells.{same_cell}
use Rattle.base_ids.specs.declared.cell_id.CellId.{CellId}
use Rattle.fleet_rec.specs.Fleets.{last_numbered}
use Rattle.planet_cell.specs.Queue.{numbered}
use Rattle.tick_model.specs.Universe.{QueueClass, same_class}
use Rattle.happenings.specs.Held.{Stand, held_at}
use Rattle.happenings.specs.Queues.{class_of, home_of}
use Rattle.happenings.specs.declared.held.Held.{Held}
use Rattle.happenings.specs.declared.queue.Queue.{Queue}

-- the last item of a queue of a cell has this number
abbrev pub numbered_stand : ℕ → QueueClass → Stand → Stand
numbered_stand number class stand =
    record stand { seen = record stand.seen { queue = λ c. if same_class class c then numbered number (stand.seen.queue c) else stand.seen.queue c } }

-- what is held of the cell of this name once the last item of a queue, if one is named, has this number
abbrev pub numbered_at : ℕ → Option Queue → Held → CellId → Option Stand
numbered_at number None held cell = held_at held cell
numbered_at number (Some queue) held cell =
    if same_cell (home_of queue) cell then option_map (numbered_stand number (class_of queue)) (held_at held cell) else held_at held cell

-- the last item of a queue has this number, and all other queues are held as before
abbrev pub Numbers : ℕ → Queue → Held → Held → Type 0
Numbers number queue old new = (cell : CellId) → held_at new cell ≡ numbered_at number (Some queue) old cell

-- the last fleet of a cell has this number
abbrev pub fleet_numbered : ℕ → Stand → Stand
fleet_numbered number stand = record stand { seen = record stand.seen { fleets = last_numbered number stand.seen.fleets } }

-- the last fleet of each of these cells has this number, and all others are held as before
abbrev pub NumbersFleet : (CellId → Bool) → ℕ → Held → Held → Type 0
NumbersFleet cells number old new =
    (cell : CellId) → held_at new cell ≡ (if cells cell then option_map (fleet_numbered number) (held_at old cell) else held_at old cell)
