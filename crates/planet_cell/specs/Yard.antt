-- What becomes of the yard of a planet. Rule: docs/RULES.md, "The yard".
use Rattle.std.specs.Prelude.{◌≡◌, ℕ, zero, suc, ◌+◌, ◌-◌, ◌*◌, ◌<◌, ◌≤◌, ◌^◌, List, [], ◌∷◌, ◌++◌, IsTrue, Some, nat_le, if◌then◌else◌, length, slice_get}
use Rattle.base_ids.specs.declared.cell_id.CellId.TheVariants.{Planet as PlanetId}
use Rattle.base_ids.specs.declared.coord.Coord.{Coord}
use Rattle.catalog.specs.Kinds.{place_in}
use Rattle.catalog.specs.declared.classes.TheConstants.{UNIT_KINDS}
use Rattle.catalog.specs.declared.kind.Kind.{Kind}
use Rattle.catalog.specs.declared.kind.Kind.TheVariants.{Satellite}
use Rattle.catalog.specs.declared.ships.TheConstants.{UNITS}
use Rattle.planet_cell.specs.Planet.{batches_of, fields_of}
use Rattle.planet_cell.specs.declared.batch.Batch.{Batch}
use Rattle.planet_cell.specs.declared.planet.Planet.{Planet}
use Rattle.ports.specs.declared.clock.TheConstants.{LATEST}
use Rattle.tick_model.specs.Buildings.{Built, Works, can_pay}
use Rattle.tick_model.specs.Production.{planet_second}
use Rattle.tick_model.specs.Universe.{Item, PlanetFields, Yard, of_planet}
use Rattle.tick_model.specs.Yards.{batch_price, begun, manned, pays_batch, unit_done, yard_left}
use Rattle.tick_model.specs.declared.codes.TheConstants.{MOST_QUEUED}
use Rattle.tick_model.specs.declared.placed.Placed.{Placed}
use Rattle.tick_model.specs.declared.placed.Placed.TheVariants.{Starts, Waits}

-- a planet and its yard
abbrev pub yard_of : Planet → Works
yard_of planet = record { planet = fields_of planet; queue = batches_of planet }

-- what they are of a cell's own
abbrev pub built : Works → Built
built works = record { own = of_planet works.planet; queue = works.queue }

-- the next unit of the first batch is done at a second that a clock can tell
abbrev pub Builds : List Item → Type 0
Builds [] = ⊥
Builds (batch ∷ later) = batch.second ≤ LATEST

-- a unit of the first batch is done
abbrev pub unit_finished : ℕ → PlanetFields → List Item → Built
unit_finished speed planet [] = record { own = of_planet planet; queue = [] }
unit_finished speed planet (batch ∷ later) = unit_done speed batch later (of_planet planet)

-- the same of a planet and its yard
abbrev pub with_unit : ℕ → PlanetFields → Item → List Item → Works
with_unit speed planet batch later = record { planet = manned planet batch.kind 1; queue = yard_left speed planet batch later }

-- if a unit of the first batch is due by a second, it is done
abbrev pub comes_due : ℕ → ℕ → PlanetFields → List Item → Works
comes_due speed now planet [] = record { planet = planet; queue = [] }
comes_due speed now planet (batch ∷ later) =
    if nat_le batch.second now then with_unit speed planet batch later else record { planet = planet; queue = batch ∷ later }

-- a second of a planet and its yard: the planet gains, and then a unit that is due is done
abbrev pub yard_second : ℕ → ℕ → Works → Works
yard_second speed now works = comes_due speed now (planet_second speed works.planet) works.queue

-- a planet and its yard, which stand at a second, so many seconds later
unfoldable pub ticked_yard : ℕ → ℕ → ℕ → Works → Works
ticked_yard speed from zero works = works
ticked_yard speed from (suc seconds) works = yard_second speed (from + suc seconds) (ticked_yard speed from seconds works)

-- no unit is overdue at a second: the next one is due later
abbrev pub IsAhead : ℕ → List Item → Type 0
IsAhead now [] = Unit {0}
IsAhead now (batch ∷ later) = now < batch.second

-- a batch after so many of its units, of which none is the last one
abbrev pub further : Item → ℕ → Item
further batch count = record batch { left = batch.left - count; second = batch.second + count * batch.unit_seconds }

-- so many units of the first batch are done, of which none is the last one
abbrev pub built_ahead : ℕ → PlanetFields → List Item → Works
built_ahead count planet [] = record { planet = planet; queue = [] }
built_ahead count planet (batch ∷ later) = record { planet = manned planet batch.kind count; queue = further batch count ∷ later }

-- the first batch has more units left than these, and the one after them is done at a second that an item can have
abbrev pub HasMore : ℕ → List Item → Type 0
HasMore count [] = ⊥
HasMore count (batch ∷ later) = (count < batch.left) × (batch.second + count * batch.unit_seconds < 2 ^ 42)

-- units of a kind change no yields: they are no satellites, or none
abbrev pub ChangeNoYields : Kind → ℕ → Type 0
ChangeNoYields kind count = place_in UNIT_KINDS kind ≡ place_in UNIT_KINDS Satellite → count ≡ 0

-- A batch is the first one, and a unit of it is due by a second.
pub record IsDue (until : ℕ) (batches : List Batch) (batch : Batch) : Type 0 where
  pub first : Some batch ≡ slice_get batches 0
  pub due : batch.second ≤ until

-- So many units of a batch, besides the next one, are done by a second, and change no yields.
pub record IsMore (batch : Batch) (until count : ℕ) : Type 0 where
  pub fewer : count < batch.left
  pub done : batch.second + count * batch.unit_seconds ≤ until
  pub yields : ChangeNoYields batch.kind.kind count

-- A planet can take a batch, which its account of so many units orders: the yard has room, the planet can pay, and the account may
-- have so many units more.
pub record CanTakeBatch (units : ℕ) (planet : PlanetFields) (batches : List Item) (kind : Kind) (count : ℕ) : Type 0 where
  pub room : length batches < MOST_QUEUED
  pub payable : IsTrue (can_pay planet.stock (batch_price kind count))
  pub within : units + count ≤ UNITS

-- a batch that is ordered at a place, and whose number isn't drawn yet
abbrev pub new_batch : Coord → Kind → ℕ → Item
new_batch at kind count =
    record { number = 0; cell = PlanetId at; class = Yard; kind = kind; place = at; level = 0; left = count; unit_seconds = 0; second = 0 }

-- A batch is paid when it is ordered. In an empty yard it is the first at once; else it waits.
abbrev pub batch_ordered : ℕ → ℕ → PlanetFields → List Item → Item → Works
batch_ordered speed moment planet [] batch =
    record { planet = pays_batch planet batch.kind batch.left; queue = begun speed moment planet batch ∷ [] }
batch_ordered speed moment planet (first ∷ later) batch =
    record { planet = pays_batch planet batch.kind batch.left; queue = (first ∷ later) ++ batch ∷ [] }

-- what is told of it: how many units it has and the second at which the first one is done, or the place in the yard
abbrev pub batch_placed : ℕ → ℕ → PlanetFields → List Item → Item → Placed
batch_placed speed moment planet [] batch = Starts batch.left (begun speed moment planet batch).second
batch_placed speed moment planet (first ∷ later) batch = Waits (length (first ∷ later) + 1)
