-- Yards that build on alone, until another event has its turn. Rules: docs/RULES.md, "Events" and "The yard".
use Rattle.std.specs.Prelude.{◌≡◌, ℕ, ◌+◌, ◌-◌, min, Bool, false, ◌&&◌, nat_le, nat_lt, List, [], ◌∷◌, Option, None, Some, option_map, if◌then◌else◌}
use Rattle.base_ids.specs.Cells.{same_cell}
use Rattle.base_ids.specs.declared.cell_id.CellId.{CellId}
use Rattle.base_ids.specs.declared.cell_id.CellId.TheVariants.{Planet as PlanetId}
use Rattle.happenings.specs.Held.{Stand, held_at}
use Rattle.happenings.specs.Sights.{names_held}
use Rattle.happenings.specs.declared.held.Held.{Held}
use Rattle.planet_cell.specs.Yard.{built, ticked_yard}
use Rattle.tick_model.specs.Buildings.{Built}
use Rattle.tick_model.specs.Flights.{landing}
use Rattle.tick_model.specs.Universe.{Buildings, Fleet, Researches, Yard, Item, Own, of_planet, QueueClass}
use Rattle.tick_model.specs.declared.rules.Rules.{Rules}

-- the second of the first item of a queue, if it comes before a limit, or else the limit
abbrev pub first_second : ℕ → List Item → ℕ
first_second limit [] = limit
first_second limit (item ∷ later) = min item.second limit

-- the same of a yard, but only if its planet has come to that second already
abbrev pub reached_second : ℕ → ℕ → List Item → ℕ
reached_second limit second [] = limit
reached_second limit second (batch ∷ later) = if nat_le batch.second second then min batch.second limit else limit

-- the second of the first of these fleets that lands at a cell, if it comes before a limit, or else the limit
abbrev pub landing_second : ℕ → CellId → List Fleet → ℕ
landing_second limit cell [] = limit
landing_second limit cell (fleet ∷ later) =
    landing_second (if same_cell (PlanetId (landing fleet)) cell then min fleet.second limit else limit) cell later

-- The second before a limit at which an event of a cell has to wait for its turn, or else the limit: a building or a research is
-- done then, or a unit to whose second its planet has come already, or a fleet lands.
abbrev pub turn_of : ℕ → CellId → Stand → ℕ
turn_of limit cell stand =
    landing_second (reached_second (first_second (first_second limit (stand.seen.queue Buildings)) (stand.seen.queue Researches)) stand.second (stand.seen.queue Yard))
    cell stand.seen.fleets

abbrev pub turn_at : ℕ → CellId → Option Stand → ℕ
turn_at limit cell None = limit
turn_at limit cell (Some stand) = turn_of limit cell stand

-- the first of these seconds of some cells
abbrev pub first_turn : Held → ℕ → List CellId → ℕ
first_turn held limit [] = limit
first_turn held limit (cell ∷ cells) = first_turn held (turn_at limit cell (held_at held cell)) cells

-- a unit of a yard is done after the second at which its planet stands, and before a limit
abbrev pub is_running : ℕ → ℕ → List Item → Bool
is_running limit second [] = false
is_running limit second (batch ∷ later) = nat_lt second batch.second && nat_lt batch.second limit

-- what a planet and its yard come to from one second to another one, if no other event comes
abbrev pub ran : Rules → ℕ → ℕ → Own → List Item → Built
ran rules from until (of_planet planet) batches = built (ticked_yard rules.speed from (until - from) (record { planet = planet; queue = batches }))
ran rules from until own batches = record { own = own; queue = batches }

-- a yard has these batches, and the other queues are as before
abbrev pub with_yard : List Item → (QueueClass → List Item) → QueueClass → List Item
with_yard batches queue Buildings = queue Buildings
with_yard batches queue Researches = queue Researches
with_yard batches queue Yard = batches

-- what is held of a planet whose yard ran until a second
abbrev pub run_until : Rules → ℕ → Stand → Stand
run_until rules until stand =
    let came = ran rules stand.second until stand.seen.own (stand.seen.queue Yard) in
    record { second = until; seen = record stand.seen { own = came.own; queue = with_yard came.queue stand.seen.queue } }

-- if a yard runs before a limit, its planet comes to the last second before it, and else it stays
abbrev pub run_before : Rules → ℕ → Stand → Stand
run_before rules limit stand = if is_running limit stand.second (stand.seen.queue Yard) then run_until rules (limit - 1) stand else stand

-- the same of planets whose yards run, and nothing of other cells
abbrev pub ran_stand : Rules → ℕ → Option Stand → Option Stand
ran_stand rules limit None = None
ran_stand rules limit (Some stand) = if is_running limit stand.second (stand.seen.queue Yard) then Some (run_until rules (limit - 1) stand) else None

abbrev pub ran_at : Rules → ℕ → Held → CellId → Option Stand
ran_at rules limit held cell = ran_stand rules limit (held_at held cell)

-- All yards that are held have run before the first second at which an event of these cells has to wait for its turn, or through a moment
-- if there is none by then.
abbrev pub YardsRun : Rules → ℕ → Held → Held → Type 0
YardsRun rules moment old new =
    (cell : CellId) → held_at new cell ≡ option_map (run_before rules (first_turn old (moment + 1) (names_held old))) (held_at old cell)
