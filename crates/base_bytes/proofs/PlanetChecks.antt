-- What is tested of a planet's queues holds of the items that they stand for.
use Rattle.std.proofs.Common.{◌≡◌, ℕ, ◌+◌, ◌≤◌, true, List, [], ◌∷◌, ◌++◌, map, drop, length, get_or, refl, ap, ◌∙◌, sym, subst, arith}
use Rattle.std.specs.Prelude.{◌==◌, All, None, Some, if◌then◌else◌, slice_get, sum_by}
use Rattle.std.proofs.lemmas.List.Elements.{All-append, All-map, All-weaker}
use Rattle.std.proofs.lemmas.List.Sums.{sum_by-cons}
use Rattle.base_bytes.proofs.Checks.{all-mapped, all-parts, others-from-rest, rest-waits}
use Rattle.base_bytes.specs.Kept.{IsDrawn}
use Rattle.base_ids.specs.declared.coord.Coord.{Coord}
use Rattle.catalog.specs.Classes.{is_building}
use Rattle.catalog.specs.Kinds.{kind_number}
use Rattle.catalog.specs.Levels.{level_cap_of}
use Rattle.catalog.specs.declared.kind.Kind.{Kind}
use Rattle.catalog.specs.declared.kind.Kind.TheVariants.{LargeDome, SmallDome}
use Rattle.planet_cell.proofs.Counts.{queued_items}
use Rattle.planet_cell.specs.Planet.{batch_item_of, batches_of, buildings_of, fields_of, item_of, queue_of}
use Rattle.planet_cell.specs.declared.batch.Batch.{Batch}
use Rattle.planet_cell.specs.declared.building_item.BuildingItem.{BuildingItem}
use Rattle.planet_cell.specs.declared.planet.Planet.{Planet}
use Rattle.tick_model.specs.Limits.{KeepsLevels, OthersWait, Rises, Waits, ordered_units}
use Rattle.tick_model.specs.Moments.{IsTimed}
use Rattle.tick_model.specs.Production.{level_of}
use Rattle.tick_model.specs.Refusals.{is_dome, queued, used_fields}
use Rattle.tick_model.specs.Universe.{Item}
use Rattle.tick_model.specs.Yards.{count_of}

-- Levels.

capped : (planet : Planet) (kind : Kind) → is_building kind ≡ true → level_of (fields_of planet) kind + queued kind (buildings_of planet) ≤ level_cap_of kind
unfolding level_of
capped planet kind is =
    let same = queued_items kind planet.at planet.buildings.items in
    let most = planet.within_levels.each kind is in
    omega (arith, same, most)

pub domes : (Fine : Kind → Type 0) → Fine SmallDome → Fine LargeDome → (kind : Kind) → is_dome kind ≡ true → Fine kind
domes Fine small large SmallDome is = small
domes Fine small large LargeDome is = large
domes Fine small large _ is = absurd cc

-- the units of the batches of a kind
pub ordered_items : (kind : Kind) (at : Coord) (batches : List Batch)
    → ordered_units kind (map (batch_item_of at) batches) ≡ sum_by (λ (batch : Batch). if kind_number batch.kind.kind == kind_number kind then batch.left else 0) batches
ordered_items kind at [] = refl
ordered_items kind at (first ∷ later) =
    sum_by-cons (λ (item : Item). if kind_number item.kind == kind_number kind then item.left else 0) (batch_item_of at first) (map (batch_item_of at) later)
    ∙ ap (λ (n : ℕ). (if kind_number first.kind.kind == kind_number kind then first.left else 0) + n) (ordered_items kind at later)
    ∙ sym (sum_by-cons (λ (batch : Batch). if kind_number batch.kind.kind == kind_number kind then batch.left else 0) first later)

pub levels_kept : (planet : Planet) → used_fields (fields_of planet) + length (buildings_of planet) ≤ planet.fields
    → ((kind : Kind) → is_dome kind ≡ true → count_of (fields_of planet) kind + ordered_units kind (batches_of planet) ≤ 1)
    → Rises (level_of (fields_of planet)) (buildings_of planet) → OthersWait (batches_of planet) → KeepsLevels (fields_of planet) (queue_of planet)
levels_kept planet fields lone rises waits = record { capped = capped planet; fielded = fields; domed = lone; rising = rises; waiting = waits }

-- Queues.

building-waits : (at : Coord) (item : BuildingItem) → (item.level ≡ 0) × (item.second ≡ 0) → Waits (item_of at item)
building-waits at item idle = (idle.0, refl, idle.1)

building-idle : (at : Coord) (item : BuildingItem) → Waits (item_of at item) → (item.level ≡ 0) × (item.second ≡ 0)
building-idle at item waits = (waits.0, waits.2)

batch-waits : (at : Coord) (batch : Batch) → (batch.unit_seconds ≡ 0) × (batch.second ≡ 0) → Waits (batch_item_of at batch)
batch-waits at batch idle = (refl, idle.0, idle.1)

batch-idle : (at : Coord) (batch : Batch) → Waits (batch_item_of at batch) → (batch.unit_seconds ≡ 0) × (batch.second ≡ 0)
batch-idle at batch waits = (waits.1, waits.2)

pub yard_waits : (at : Coord) (batches : List Batch) → All (λ (batch : Batch). (batch.unit_seconds ≡ 0) × (batch.second ≡ 0)) (drop 1 batches) → OthersWait (map (batch_item_of at) batches)
yard_waits at batches idle = others-from-rest (batch_item_of at) batches (All-weaker _ (λ (batch : Batch). Waits (batch_item_of at batch)) (batch-waits at) (drop 1 batches) idle)

pub yard_idle : (at : Coord) (batches : List Batch) → OthersWait (map (batch_item_of at) batches) → All (λ (batch : Batch). (batch.unit_seconds ≡ 0) × (batch.second ≡ 0)) (drop 1 batches)
yard_idle at batches waits = All-weaker (λ (batch : Batch). Waits (batch_item_of at batch)) _ (batch-idle at) (drop 1 batches) (rest-waits (batch_item_of at) batches waits)

-- the first building rises, and the others wait
pub building_rises : (level : Kind → ℕ) (at : Coord) (items : List BuildingItem) (first : BuildingItem) → Some first ≡ slice_get items 0 → first.level ≡ level first.kind.kind + 1
    → All (λ (item : BuildingItem). (item.level ≡ 0) × (item.second ≡ 0)) (drop 1 items) → Rises level (map (item_of at) items)
building_rises level at [] first is up idle = tt
building_rises level at (head ∷ later) first is up idle = (
  subst (λ (item : BuildingItem). item.level ≡ level item.kind.kind + 1) (one first head is) up,
  All-map Waits (item_of at) later (All-weaker _ (λ (item : BuildingItem). Waits (item_of at item)) (building-waits at) later idle),
)
  where
    one : (a b : BuildingItem) → Some a ≡ Some b → a ≡ b
    one a b same = cc

pub rises_building : (level : Kind → ℕ) (at : Coord) (items : List BuildingItem) (first : BuildingItem) → Some first ≡ slice_get items 0 → Rises level (map (item_of at) items)
    → (first.level ≡ level first.kind.kind + 1) × All (λ (item : BuildingItem). (item.level ≡ 0) × (item.second ≡ 0)) (drop 1 items)
rises_building level at [] first is rises = absurd cc
rises_building level at (head ∷ later) first is rises = (
  subst (λ (item : BuildingItem). item.level ≡ level item.kind.kind + 1) (sym (one first head is)) rises.0,
  All-weaker (λ (item : BuildingItem). Waits (item_of at item)) _ (building-idle at) later (all-mapped Waits (item_of at) later rises.1),
)
  where
    one : (a b : BuildingItem) → Some a ≡ Some b → a ≡ b
    one a b same = cc

pub rises_none : (level : Kind → ℕ) (at : Coord) (items : List BuildingItem) → None ≡ slice_get items 0 → Rises level (map (item_of at) items)
rises_none level at [] is = tt
rises_none level at (head ∷ later) is = absurd cc

-- Numbers and times.

pub items_drawn : (number : ℕ) (at : Coord) (buildings : List BuildingItem) (yard : List Batch) → All (λ (item : BuildingItem). (1 ≤ item.number) × (item.number ≤ number)) buildings
    → All (λ (batch : Batch). (1 ≤ batch.number) × (batch.number ≤ number)) yard → All (IsDrawn number) (map (item_of at) buildings ++ map (batch_item_of at) yard)
items_drawn number at buildings yard built made =
    All-append (IsDrawn number) (map (item_of at) buildings) (map (batch_item_of at) yard) (All-map (IsDrawn number) (item_of at) buildings built) (All-map (IsDrawn number) (batch_item_of at) yard made)

pub drawn_items : (number : ℕ) (at : Coord) (buildings : List BuildingItem) (yard : List Batch) → All (IsDrawn number) (map (item_of at) buildings ++ map (batch_item_of at) yard)
    → All (λ (item : BuildingItem). (1 ≤ item.number) × (item.number ≤ number)) buildings × All (λ (batch : Batch). (1 ≤ batch.number) × (batch.number ≤ number)) yard
drawn_items number at buildings yard drawn =
    let parts = all-parts (IsDrawn number) (map (item_of at) buildings) (map (batch_item_of at) yard) drawn in
    (all-mapped (IsDrawn number) (item_of at) buildings parts.0, all-mapped (IsDrawn number) (batch_item_of at) yard parts.1)

building-timed : (moment : ℕ) (at : Coord) (item : BuildingItem) → IsTimed moment (item_of at item)
building-timed moment at item = record { ends = item.in_time; paced = omega arith; next = λ yard. absurd cc }

batch-timed : (moment : ℕ) (at : Coord) (batch : Batch) → batch.second ≤ moment + batch.unit_seconds → IsTimed moment (batch_item_of at batch)
batch-timed moment at batch next = record { ends = batch.in_time; paced = batch.short; next = λ yard. next }

pub items_timed : (moment : ℕ) (at : Coord) (buildings : List BuildingItem) (yard : List Batch) → All (λ (batch : Batch). batch.second ≤ moment + batch.unit_seconds) yard
    → All (IsTimed moment) (map (item_of at) buildings ++ map (batch_item_of at) yard)
items_timed moment at buildings yard made =
    All-append (IsTimed moment) (map (item_of at) buildings) (map (batch_item_of at) yard) (All-map (IsTimed moment) (item_of at) buildings (λ k d below. building-timed moment at (get_or buildings k d)))
    (All-map (IsTimed moment) (batch_item_of at) yard (All-weaker _ (λ (batch : Batch). IsTimed moment (batch_item_of at batch)) (batch-timed moment at) yard made))

pub timed_items : (moment : ℕ) (at : Coord) (buildings : List BuildingItem) (yard : List Batch) → All (IsTimed moment) (map (item_of at) buildings ++ map (batch_item_of at) yard)
    → All (λ (batch : Batch). batch.second ≤ moment + batch.unit_seconds) yard
timed_items moment at buildings yard timed =
    let parts = all-parts (IsTimed moment) (map (item_of at) buildings) (map (batch_item_of at) yard) timed in
    All-weaker (λ (batch : Batch). IsTimed moment (batch_item_of at batch)) _ (λ batch one. one.next refl) yard (all-mapped (IsTimed moment) (batch_item_of at) yard parts.1)
