-- What always holds of the levels, the tenths, the units and the yard of a planet. Rules: docs/RULES.md, "Kinds and costs", "Energy"
-- and "The yard".
use Rattle.std.specs.Prelude.{◌≡◌, ℕ, ◌+◌, ◌≤◌, ◌==◌, List, IsTrue, Some, count_by, slice_get, slice_index, sum_by}
use Rattle.catalog.specs.Classes.{is_building}
use Rattle.catalog.specs.Kinds.{kind_number, place_in}
use Rattle.catalog.specs.Levels.{level_cap_of}
use Rattle.catalog.specs.declared.classes.TheConstants.{BUILDINGS}
use Rattle.catalog.specs.declared.kind.Kind.{Kind}
use Rattle.planet_cell.specs.declared.batch.Batch.{Batch}
use Rattle.planet_cell.specs.declared.building_item.BuildingItem.{BuildingItem}

-- how many items of a kind stand in a queue
abbrev pub count_of : Kind → List BuildingItem → ℕ
count_of kind items = count_by (λ item. kind_number item.kind.kind == kind_number kind) items

-- No building rises above its highest level, even if all items of the queue are built.
pub record AreWithinCaps (levels : List ℕ) (items : List BuildingItem) : Type 0 where
  pub each : (kind : Kind) → IsTrue (is_building kind) → slice_index levels (place_in BUILDINGS kind) + count_of kind items ≤ level_cap_of kind

-- no number of a list is above a bound
abbrev pub AreAtMost : ℕ → List ℕ → Type 0
AreAtMost most numbers = (place : ℕ) → slice_index numbers place ≤ most

-- how many units are left to build in some batches
abbrev pub left_in : List Batch → ℕ
left_in batches = sum_by (λ batch. batch.left) batches

-- The first batch has begun: it is fixed how long each of its units takes.
pub record HasBegun (batches : List Batch) : Type 0 where
  pub first : (batch : Batch) → Some batch ≡ slice_get batches 0 → 1 ≤ batch.unit_seconds
