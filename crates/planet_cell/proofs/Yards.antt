-- What becomes of the yard of a planet as its units are done.
use Rattle.std.proofs.Common.{◌≡◌, ℕ, ◌+◌, ◌-◌, ◌*◌, ◌/◌, ◌<◌, ◌≤◌, ◌^◌, true, false, List, [], ◌∷◌, map, drop, length, refl, ap, sym, subst, ◌∙◌, arith, slice_index}
use Rattle.std.specs.Prelude.{None, Some, nat_le, slice_get, slice_index_or, slice_set, if◌then◌else◌}
use Rattle.std.proofs.Math.Nat.{mul-le-mul_left}
use Rattle.std.proofs.lemmas.Bool.Decides.{nat_tests}
use Rattle.std.proofs.lemmas.List.Sums.{sum_by-cons}
use Rattle.base_ids.specs.declared.coord.Coord.{Coord}
use Rattle.catalog.specs.Kinds.{place_in}
use Rattle.catalog.specs.declared.classes.TheConstants.{UNIT_KINDS}
use Rattle.catalog.specs.declared.kind.Kind.{Kind}
use Rattle.planet_cell.proofs.Spans.{unit_duration_from}
use Rattle.planet_cell.proofs.Ticks.{quiet, ticked_add, unit_at}
use Rattle.planet_cell.specs.Bounds.{HasBegun}
use Rattle.planet_cell.specs.Planet.{batch_item_of}
use Rattle.planet_cell.specs.Yard.{Builds, ChangeNoYields, HasMore, IsAhead, IsDue, IsMore, built, built_ahead, further, ticked_yard, unit_finished, with_unit}
use Rattle.planet_cell.specs.declared.batch.Batch.{Batch}
use Rattle.ports.specs.declared.clock.TheConstants.{LATEST}
use Rattle.rates.specs.Times.{times}
use Rattle.tick_model.specs.Buildings.{Built, Works}
use Rattle.tick_model.specs.Production.{planet_second}
use Rattle.tick_model.specs.Universe.{Item, PlanetFields, of_planet}
use Rattle.tick_model.specs.Views.{units_left}
use Rattle.tick_model.specs.Yards.{begins_first, begun, count_of, manned, yard_left}

-- the first batch of a yard, in which a unit is done
pub first_builds : (at : Coord) (batches : List Batch) → Builds (map (batch_item_of at) batches) → 0 < length batches
first_builds at [] builds = absurd builds
first_builds at (head ∷ later) builds = omega arith

pub first_second : (at : Coord) (batches : List Batch) (first : Batch) → Builds (map (batch_item_of at) batches) → first ≡ slice_index_or batches 0 first → first.second ≤ LATEST
first_second at [] first builds here = absurd builds
first_second at (head ∷ later) first builds here = subst (λ (x : Batch). x.second ≤ LATEST) (sym here) builds

pub first_more : (count : ℕ) (at : Coord) (batches : List Batch) → HasMore count (map (batch_item_of at) batches) → 0 < length batches
first_more count at [] more = absurd more
first_more count at (head ∷ later) more = omega arith

pub first_left : (count : ℕ) (at : Coord) (batches : List Batch) (first : Batch) → HasMore count (map (batch_item_of at) batches) → first ≡ slice_index_or batches 0 first → count < first.left
first_left count at [] first more here = absurd more
first_left count at (head ∷ later) first more here = subst (λ (x : Batch). count < x.left) (sym here) more.0

pub first_in_time : (count : ℕ) (at : Coord) (batches : List Batch) (first : Batch) → HasMore count (map (batch_item_of at) batches) → first ≡ slice_index_or batches 0 first
    → first.second + count * first.unit_seconds < 2 ^ 42
first_in_time count at [] first more here = absurd more
first_in_time count at (head ∷ later) first more here = subst (λ (x : Batch). x.second + count * x.unit_seconds < 2 ^ 42) (sym here) more.1

pub has_one_more : (at : Coord) (batches : List Batch) (first : Batch) → Builds (map (batch_item_of at) batches) → first ≡ slice_index_or batches 0 first → 1 < first.left → HasMore 1 (map (batch_item_of at) batches)
has_one_more at [] first builds here more = absurd builds
has_one_more at (head ∷ later) first builds here more =
    let lefts : first.left ≡ head.left = ap (λ (x : Batch). x.left) here in
    (omega arith, omega (arith, builds, head.short))

-- so many units of the first batch are done
pub builds_ahead : (planet : PlanetFields) (at : Coord) (batches : List Batch) (first next : Batch) (place value count steps : ℕ)
    → HasMore count (map (batch_item_of at) batches) → first ≡ slice_index_or batches 0 first → place ≡ place_in UNIT_KINDS first.kind.kind → value ≡ slice_index planet.units place + count → steps ≡ count
    → batch_item_of at next ≡ record (batch_item_of at first) { left = first.left - count; second = first.second + steps * first.unit_seconds }
    → record { planet = record planet { units = slice_set planet.units place value }; queue = map (batch_item_of at) (slice_set batches 0 next) } ≡ built_ahead count planet (map (batch_item_of at) batches)
unfolding manned count_of
builds_ahead planet at [] first next place value count steps more here spot sum all same = absurd more
builds_ahead planet at (head ∷ later) first next place value count steps more here spot sum all same =
    let equal : first ≡ head = here in
    let spots : place ≡ place_in UNIT_KINDS head.kind.kind = spot ∙ ap (λ (x : Batch). place_in UNIT_KINDS x.kind.kind) equal in
    let units : slice_set planet.units place value ≡ slice_set planet.units (place_in UNIT_KINDS head.kind.kind) (slice_index planet.units (place_in UNIT_KINDS head.kind.kind) + count) =
    ap (λ (n : ℕ). slice_set planet.units place n) sum ∙ ap (λ (p : ℕ). slice_set planet.units p (slice_index planet.units p + count)) spots in
    let item : batch_item_of at next ≡ further (batch_item_of at head) count =
    same
    ∙ ap (λ (n : ℕ). record (batch_item_of at first) { left = first.left - count; second = first.second + n * first.unit_seconds }) all
    ∙ ap (λ (x : Batch). further (batch_item_of at x) count) equal in
    λ i. record { planet = record planet { units = units i }; queue = item i ∷ map (batch_item_of at) later }

-- a unit is done that isn't the last one of its batch
pub one_ahead : (speed : ℕ) (planet : PlanetFields) (at : Coord) (batches : List Batch) (first : Batch) (works : Works)
    → Builds (map (batch_item_of at) batches) → first ≡ slice_index_or batches 0 first → 1 < first.left → works ≡ built_ahead 1 planet (map (batch_item_of at) batches)
    → built works ≡ unit_finished speed planet (map (batch_item_of at) batches)
one_ahead speed planet at [] first works builds here more ahead = absurd builds
one_ahead speed planet at (head ∷ later) first works builds here more ahead =
    let lefts : first.left ≡ head.left = ap (λ (x : Batch). x.left) here in
    let more_left : nat_le head.left 1 ≡ false = grind (arith, nat_tests) in
    let second : head.second + 1 * head.unit_seconds ≡ head.second + head.unit_seconds = omega arith in
    ap built ahead
    ∙ rw more_left (ap (λ (n : ℕ). record { own = of_planet (manned planet head.kind.kind 1); queue = record (batch_item_of at head) { left = head.left - 1; second = n } ∷ map (batch_item_of at) later }) second)

-- the last unit of a batch is done
pub last_done : (speed : ℕ) (planet : PlanetFields) (at : Coord) (batches : List Batch) (first : Batch) (place value : ℕ) (queue : List Item)
    → Builds (map (batch_item_of at) batches) → first ≡ slice_index_or batches 0 first → first.left ≤ 1 → place ≡ place_in UNIT_KINDS first.kind.kind → value ≡ slice_index planet.units place + 1
    → queue ≡ begins_first speed first.second planet (drop 1 (map (batch_item_of at) batches))
    → record { own = of_planet (record planet { units = slice_set planet.units place value }); queue = queue } ≡ unit_finished speed planet (map (batch_item_of at) batches)
unfolding manned count_of
last_done speed planet at [] first place value queue builds here last spot sum begins = absurd builds
last_done speed planet at (head ∷ later) first place value queue builds here last spot sum begins =
    let equal : first ≡ head = here in
    let lefts : first.left ≡ head.left = ap (λ (x : Batch). x.left) equal in
    let is_last : nat_le head.left 1 ≡ true = grind (arith, nat_tests) in
    let spots : place ≡ place_in UNIT_KINDS head.kind.kind = spot ∙ ap (λ (x : Batch). place_in UNIT_KINDS x.kind.kind) equal in
    let units : slice_set planet.units place value ≡ slice_set planet.units (place_in UNIT_KINDS head.kind.kind) (slice_index planet.units (place_in UNIT_KINDS head.kind.kind) + 1) =
    ap (λ (n : ℕ). slice_set planet.units place n) sum ∙ ap (λ (p : ℕ). slice_set planet.units p (slice_index planet.units p + 1)) spots in
    let queues : queue ≡ begins_first speed head.second planet (map (batch_item_of at) later) = begins ∙ ap (λ (x : Batch). begins_first speed x.second planet (map (batch_item_of at) later)) equal in
    rw is_last (λ i. record { own = of_planet (record planet { units = units i }); queue = queues i })

-- the first batch goes, and none stands behind it
pub begins_none : (speed second : ℕ) (planet : PlanetFields) (at : Coord) (batches later : List Batch) → None ≡ slice_get batches 1 → later ≡ drop 1 batches
    → map (batch_item_of at) later ≡ begins_first speed second planet (drop 1 (map (batch_item_of at) batches))
begins_none speed second planet at [] later none is = ap (map (batch_item_of at)) is
begins_none speed second planet at (head ∷ []) later none is = ap (map (batch_item_of at)) is
begins_none speed second planet at (head ∷ next ∷ rest) later none is = cc none

-- the first batch goes, and the one behind it begins
pub begins_next : (speed second : ℕ) (planet : PlanetFields) (at : Coord) (batches later : List Batch) (old next : Batch) → Some old ≡ slice_get batches 1 → later ≡ drop 1 (slice_set batches 1 next)
    → batch_item_of at next ≡ begun speed second planet (batch_item_of at old)
    → map (batch_item_of at) later ≡ begins_first speed second planet (drop 1 (map (batch_item_of at) batches))
begins_next speed second planet at [] later old next here is begins = cc here
begins_next speed second planet at (head ∷ []) later old next here is begins = cc here
begins_next speed second planet at (head ∷ behind ∷ rest) later old next here is begins =
    let equal : old ≡ behind = cc here in
    let item : batch_item_of at next ≡ begun speed second planet (batch_item_of at behind) = begins ∙ ap (λ (x : Batch). begun speed second planet (batch_item_of at x)) equal in
    ap (map (batch_item_of at)) is ∙ ap (λ (x : Item). x ∷ map (batch_item_of at) rest) item

-- no unit of the yard is due
pub ahead_none : (until : ℕ) (at : Coord) (batches : List Batch) → None ≡ slice_get batches 0 → IsAhead until (map (batch_item_of at) batches)
ahead_none until at [] none = tt
ahead_none until at (head ∷ later) none = cc none

pub ahead_later : (until : ℕ) (at : Coord) (batches : List Batch) (first : Batch) → Some first ≡ slice_get batches 0 → until < first.second → IsAhead until (map (batch_item_of at) batches)
ahead_later until at [] first here later = tt
ahead_later until at (head ∷ rest) first here later = let equal : first ≡ head = cc here in subst (λ (x : Batch). until < x.second) equal later

-- the next unit is due later
pub ahead_first : (now : ℕ) (at : Coord) (batches : List Batch) (first : Batch) → IsAhead now (map (batch_item_of at) batches) → Some first ≡ slice_get batches 0 → now < first.second
ahead_first now at [] first ahead here = cc here
ahead_first now at (head ∷ rest) first ahead here = let equal : first ≡ head = cc here in subst (λ (x : Batch). now < x.second) (sym equal) ahead

-- so many times a number is within what is divided by it
pub counted : (passed takes count : ℕ) → 1 ≤ takes → count ≤ passed / takes → count * takes ≤ passed
counted passed takes count some within = omega (arith, mul-le-mul_left takes within)

-- a planet and its yard are known by what they are of a cell's own
built_back : (first second : Works) → built first ≡ built second → first ≡ second
built_back first second same =
    let planets : first.planet ≡ second.planet = cc (ap (λ (x : Built). x.own) same) in
    let queues : first.queue ≡ second.queue = ap (λ (x : Built). x.queue) same in
    λ i. record { planet = planets i; queue = queues i }

begins_ahead : (speed second : ℕ) (planet : PlanetFields) (batches : List Item) → IsAhead second (begins_first speed second planet batches)
begins_ahead speed second planet [] = tt
begins_ahead speed second planet (batch ∷ later) = omega (arith, unit_duration_from speed planet batch.kind)

left_more : (batch : Item) (later : List Item) → units_left (batch ∷ later) ≡ batch.left + units_left later
left_more batch later = sum_by-cons (λ (x : Item). x.left) batch later

begins_left : (speed second : ℕ) (planet : PlanetFields) (batches : List Item) → units_left (begins_first speed second planet batches) ≡ units_left batches
begins_left speed second planet [] = refl
begins_left speed second planet (batch ∷ later) = left_more (begun speed second planet batch) later ∙ sym (left_more batch later)

-- what is left of a yard after a unit is done is due later
left_ahead : (speed : ℕ) (planet : PlanetFields) (batch : Item) (later : List Item) → 1 ≤ batch.unit_seconds → IsAhead batch.second (yard_left speed planet batch later)
left_ahead speed planet batch later takes =
    elim (nat_le batch.left 1) as (λ last. IsAhead batch.second (if last then begins_first speed batch.second planet later else record batch { left = batch.left - 1; second = batch.second + batch.unit_seconds } ∷ later)) [
      | true ↦ begins_ahead speed batch.second planet later
      | false ↦ omega arith
    ]

-- and has fewer units
left_fewer : (speed : ℕ) (planet : PlanetFields) (batch : Item) (later : List Item) → 1 ≤ batch.left → units_left (yard_left speed planet batch later) < units_left (batch ∷ later)
left_fewer speed planet batch later some =
    elim (nat_le batch.left 1) as (λ last. units_left (if last then begins_first speed batch.second planet later else record batch { left = batch.left - 1; second = batch.second + batch.unit_seconds } ∷ later) < units_left (batch ∷ later)) [
      | true ↦ omega (arith, begins_left speed batch.second planet later, left_more batch later)
      | false ↦ omega (arith, left_more batch later, left_more (record batch { left = batch.left - 1; second = batch.second + batch.unit_seconds }) later)
    ]

-- what comes of a planet and its yard in a turn: it ticks to the second at which the last of some units is done
pub record HasTurned (speed now seconds : ℕ) (before after : Works) : Type 0 where
  pub ticks : after ≡ ticked_yard speed now seconds before
  pub ahead : IsAhead (now + seconds) after.queue
  pub fewer : units_left after.queue < units_left before.queue

none_of_them : (kind : Kind) (count some : ℕ) → ChangeNoYields kind count → some ≤ count → ChangeNoYields kind some
none_of_them kind count some none within here = omega (arith, none here)

turned_items : (speed now seconds count : ℕ) (planet : PlanetFields) (batch : Item) (later : List Item) (came : Works)
    → now + seconds ≡ batch.second + count * batch.unit_seconds → now < batch.second → count < batch.left → 1 ≤ batch.unit_seconds → ChangeNoYields batch.kind count
    → built came ≡ unit_finished speed (manned (times seconds (planet_second speed) planet) batch.kind count) (further batch count ∷ later)
    → HasTurned speed now seconds (record { planet = planet; queue = batch ∷ later }) came
turned_items speed now seconds count planet batch later came last ahead fewer takes none done =
    let there = manned (times seconds (planet_second speed) planet) batch.kind count in
    let unit : came ≡ with_unit speed there (further batch count) later = built_back came (with_unit speed there (further batch count) later) done in
    let next = left_ahead speed there (further batch count) later takes in
    let left = left_fewer speed there (further batch count) later (omega arith) in
    record {
      ticks = unit ∙ sym (unit_at speed now seconds count planet batch later last ahead fewer takes (λ some within. none_of_them batch.kind count some none within));
      ahead = subst (λ (x : Works). IsAhead (now + seconds) x.queue) (sym unit) (subst (λ (n : ℕ). IsAhead n (yard_left speed there (further batch count) later)) (sym last) next);
      fewer = subst (λ (x : Works). units_left x.queue < units_left (batch ∷ later)) (sym unit) (omega (arith, left, left_more batch later, left_more (further batch count) later));
    }

-- one turn of the loop over the batches
pub turned : (speed now until seconds count : ℕ) (planet : PlanetFields) (at : Coord) (batches : List Batch) (batch : Batch) (gained ahead came : Works)
    → IsDue until batches batch → HasBegun batches → IsAhead now (map (batch_item_of at) batches) → IsMore batch until count → now + seconds ≡ batch.second + count * batch.unit_seconds
    → gained ≡ record { planet = times seconds (planet_second speed) planet; queue = map (batch_item_of at) batches } → ahead ≡ built_ahead count gained.planet gained.queue → built came ≡ unit_finished speed ahead.planet ahead.queue
    → HasTurned speed now seconds (record { planet = planet; queue = map (batch_item_of at) batches }) came
turned speed now until seconds count planet at [] batch gained ahead came due begun next more last gains builds done = cc due.first
turned speed now until seconds count planet at (head ∷ later) batch gained ahead came due begun next more last gains builds done =
    let equal : batch ≡ head = cc due.first in
    let takes : 1 ≤ head.unit_seconds = begun.first head refl in
    let works = builds ∙ ap (λ (x : Works). built_ahead count x.planet x.queue) gains in
    let lasts : now + seconds ≡ head.second + count * head.unit_seconds = last ∙ ap (λ (x : Batch). x.second + count * x.unit_seconds) equal in
    let fewer : count < head.left = subst (λ (x : Batch). count < x.left) equal more.fewer in
    let none : ChangeNoYields head.kind.kind count = subst (λ (x : Batch). ChangeNoYields x.kind.kind count) equal more.yields in
    turned_items speed now seconds count planet (batch_item_of at head) (map (batch_item_of at) later) came lasts next fewer takes none
    (done ∙ ap (λ (x : Works). unit_finished speed x.planet x.queue) works)

-- after a turn the yard ticks on
pub goes_on : (speed now seconds last until : ℕ) (before after : Works) → HasTurned speed now seconds before after → last ≡ now + seconds → last ≤ until
    → ticked_yard speed last (until - last) after ≡ ticked_yard speed now (until - now) before
goes_on speed now seconds last until before after turn is within =
    let rest : seconds + (until - last) ≡ until - now = omega arith in
    ap (ticked_yard speed last (until - last)) turn.ticks
    ∙ ap (λ (n : ℕ). ticked_yard speed n (until - last) (ticked_yard speed now seconds before)) is
    ∙ ticked_add speed now seconds (until - last) before
    ∙ ap (λ (n : ℕ). ticked_yard speed now n before) rest

-- if no unit is due any more, the planet gains to the end
pub ends : (speed now until : ℕ) (planet : PlanetFields) (queue : List Item) (gained : Works) → now ≤ until → IsAhead until queue
    → gained ≡ record { planet = times (until - now) (planet_second speed) planet; queue = queue } → gained ≡ ticked_yard speed now (until - now) (record { planet = planet; queue = queue })
ends speed now until planet queue gained within ahead gains =
    let all : until ≡ now + (until - now) = omega arith in
    gains ∙ sym (quiet speed now (until - now) planet queue (subst (λ (n : ℕ). IsAhead n queue) all ahead))

-- the units that are counted together are done in time
pub has_more : (until count : ℕ) (at : Coord) (batches : List Batch) (batch : Batch) (queue : List Item) → IsDue until batches batch → IsMore batch until count → until ≤ LATEST
    → queue ≡ map (batch_item_of at) batches → HasMore count queue
has_more until count at [] batch queue due more latest is = cc due.first
has_more until count at (head ∷ later) batch queue due more latest is =
    let equal : batch ≡ head = cc due.first in
    let fewer : count < head.left = subst (λ (x : Batch). count < x.left) equal more.fewer in
    let done : head.second + count * head.unit_seconds ≤ until = subst (λ (x : Batch). x.second + count * x.unit_seconds ≤ until) equal more.done in
    let result : HasMore count (map (batch_item_of at) (head ∷ later)) = (fewer, omega arith) in
    subst (HasMore count) (sym is) result

pub builds_then : (until count : ℕ) (at : Coord) (batches : List Batch) (batch : Batch) (gained ahead : Works) → IsDue until batches batch → IsMore batch until count → until ≤ LATEST
    → gained.queue ≡ map (batch_item_of at) batches → ahead ≡ built_ahead count gained.planet gained.queue → Builds ahead.queue
builds_then until count at [] batch gained ahead due more latest is builds = cc due.first
builds_then until count at (head ∷ later) batch gained ahead due more latest is builds =
    let equal : batch ≡ head = cc due.first in
    let done : head.second + count * head.unit_seconds ≤ until = subst (λ (x : Batch). x.second + count * x.unit_seconds ≤ until) equal more.done in
    let queue : ahead.queue ≡ (built_ahead count gained.planet (map (batch_item_of at) (head ∷ later))).queue =
    ap (λ (x : Works). x.queue) builds ∙ ap (λ (xs : List Item). (built_ahead count gained.planet xs).queue) is in
    let result : Builds (further (batch_item_of at head) count ∷ map (batch_item_of at) later) = omega arith in
    subst Builds (sym queue) result
