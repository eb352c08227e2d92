-- How many units a planet has, with those that its yard is to build.
use Rattle.std.proofs.Common.{◌≡◌, ℕ, zero, suc, ◌+◌, ◌<◌, ◌≤◌, List, [], ◌∷◌, map, length, replicate, drop, refl, ap, sym, subst, ◌∙◌, arith, slice_index}
use Rattle.std.specs.Prelude.{None, Some, slice_get, slice_index_or, slice_set, sum}
use Rattle.std.proofs.lemmas.List.Sums.{sum_by-cons, sum_by-set}
use Rattle.base_ids.specs.declared.coord.Coord.{Coord}
use Rattle.catalog.specs.declared.ships.TheConstants.{UNITS}
use Rattle.planet_cell.specs.Bounds.{HasBegun, left_in}
use Rattle.planet_cell.specs.Planet.{batch_item_of}
use Rattle.planet_cell.specs.declared.batch.Batch.{Batch}
use Rattle.tick_model.specs.Universe.{Item}
use Rattle.tick_model.specs.Views.{units_left}

-- beyond a list no number stands
beyond : (numbers : List ℕ) (place : ℕ) → length numbers ≤ place → slice_index numbers place ≡ 0
beyond [] place past = refl
beyond (first ∷ later) zero past = absurd (omega arith)
beyond (first ∷ later) (suc place) past = beyond later place (omega arith)

-- no number is above the sum
pub below_sum : (numbers : List ℕ) (place : ℕ) → slice_index numbers place ≤ sum numbers
below_sum [] place = omega arith
below_sum (first ∷ later) zero = omega (arith, sum_by-cons (λ (n : ℕ). n) first later)
below_sum (first ∷ later) (suc place) = omega (arith, sum_by-cons (λ (n : ℕ). n) first later, below_sum later place)

-- a planet has at most so many units of each kind as it may have of all
pub each_within : (units : List ℕ) (batches : List Batch) (place : ℕ) → sum units + left_in batches ≤ UNITS → slice_index units place ≤ UNITS
each_within units batches place within = omega (arith, below_sum units place)

-- the batches of a yard are to build as many units as the items that stand for them
pub left_items : (at : Coord) (batches : List Batch) → units_left (map (batch_item_of at) batches) ≡ left_in batches
left_items at [] = refl
left_items at (first ∷ later) =
    sum_by-cons (λ (item : Item). item.left) (batch_item_of at first) (map (batch_item_of at) later)
    ∙ ap (λ (n : ℕ). first.left + n) (left_items at later)
    ∙ sym (sum_by-cons (λ (batch : Batch). batch.left) first later)

left_first : (first : Batch) (later : List Batch) → left_in (first ∷ later) ≡ first.left + left_in later
left_first first later = sum_by-cons (λ (batch : Batch). batch.left) first later

-- so many more stand at a place
more_stand : (units : List ℕ) (place count : ℕ) → place < length units → sum (slice_set units place (slice_index units place + count)) ≡ sum units + count
more_stand units place count within =
    let all = sum_by-set (λ (n : ℕ). n) units place (slice_index units place + count) 0 within in
    omega (arith, all)

-- some units of the first batch stand, and fewer are left
pub total_ahead : (units : List ℕ) (batches : List Batch) (place count value : ℕ) (first next : Batch) → sum units + left_in batches ≤ UNITS → place < length units → 0 < length batches
    → first ≡ slice_index_or batches 0 first → next.left + count ≡ first.left → value ≡ slice_index units place + count
    → sum (slice_set units place value) + left_in (slice_set batches 0 next) ≤ UNITS
total_ahead units [] place count value first next within spot some here fewer more = absurd (omega arith)
total_ahead units (head ∷ later) place count value first next within spot some here fewer more =
    let equal : first ≡ head = here in
    let lefts : first.left ≡ head.left = ap (λ (x : Batch). x.left) equal in
    let sums : sum (slice_set units place value) ≡ sum units + count = ap (λ (n : ℕ). sum (slice_set units place n)) more ∙ more_stand units place count spot in
    omega (arith, left_first head later, left_first next later)

-- and the first batch has still begun
pub begun_ahead : (batches : List Batch) (first next : Batch) → HasBegun batches → 0 < length batches → first ≡ slice_index_or batches 0 first → next.unit_seconds ≡ first.unit_seconds
    → HasBegun (slice_set batches 0 next)
begun_ahead [] first next begun some here same = absurd (omega arith)
begun_ahead (head ∷ later) first next begun some here same =
    record {
      first = λ batch is.
          let equal : head ≡ first = sym here in
          let this : batch ≡ next = cc is in
          let seconds : batch.unit_seconds ≡ head.unit_seconds = ap (λ (x : Batch). x.unit_seconds) this ∙ same ∙ ap (λ (x : Batch). x.unit_seconds) (sym equal) in
          omega (arith, begun.first head refl, seconds);
    }

-- the first batch goes
pub fewer_none : (batches later : List Batch) → 0 < length batches → later ≡ drop 1 batches → left_in later < left_in batches
fewer_none [] later some is = absurd (omega arith)
fewer_none (head ∷ rest) later some is = omega (arith, ap left_in is, left_first head rest, head.some)

-- and none stands behind it
pub begun_none : (batches later : List Batch) → None ≡ slice_get batches 1 → later ≡ drop 1 batches → HasBegun later
begun_none [] later none is = subst HasBegun (sym is) (record { first = λ batch here. cc here })
begun_none (head ∷ []) later none is = subst HasBegun (sym is) (record { first = λ batch here. cc here })
begun_none (head ∷ second ∷ rest) later none is = cc none

-- or the one behind it has begun
pub fewer_next : (batches later : List Batch) (old next : Batch) → Some old ≡ slice_get batches 1 → later ≡ drop 1 (slice_set batches 1 next) → next.left ≡ old.left → left_in later < left_in batches
fewer_next [] later old next here is same = cc here
fewer_next (head ∷ []) later old next here is same = cc here
fewer_next (head ∷ second ∷ rest) later old next here is same =
    let equal : old ≡ second = cc here in
    let lefts : old.left ≡ second.left = ap (λ (x : Batch). x.left) equal in
    omega (arith, ap left_in is, left_first head (second ∷ rest), left_first second rest, left_first next rest, head.some)

pub begun_next : (batches later : List Batch) (old next : Batch) → Some old ≡ slice_get batches 1 → later ≡ drop 1 (slice_set batches 1 next) → 1 ≤ next.unit_seconds → HasBegun later
begun_next [] later old next here is takes = cc here
begun_next (head ∷ []) later old next here is takes = cc here
begun_next (head ∷ second ∷ rest) later old next here is takes =
    subst HasBegun (sym is)
    (record {
      first = λ batch found.
          let this : batch ≡ next = cc found in
          let seconds : batch.unit_seconds ≡ next.unit_seconds = ap (λ (x : Batch). x.unit_seconds) this in
          omega (arith, seconds);
    })

-- one more unit stands, and fewer are left
pub total_last : (units : List ℕ) (place value left before : ℕ) → place < length units → value ≡ slice_index units place + 1 → left < before → sum units + before ≤ UNITS
    → sum (slice_set units place value) + left ≤ UNITS
total_last units place value left before spot more fewer within =
    let sums : sum (slice_set units place value) ≡ sum units + 1 = ap (λ (n : ℕ). sum (slice_set units place n)) more ∙ more_stand units place 1 spot in
    omega arith

-- a planet without units and batches
pub total_empty : (batches : List Batch) → batches ≡ [] → sum (replicate 22 0) + left_in batches ≤ UNITS
total_empty batches empty = omega (arith, ap left_in empty)

pub begun_empty : (batches : List Batch) → batches ≡ [] → HasBegun batches
begun_empty batches empty = subst HasBegun (sym empty) (record { first = λ batch is. cc is })
