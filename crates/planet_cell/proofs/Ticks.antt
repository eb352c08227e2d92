-- How a planet and its yard tick.
use Rattle.std.proofs.Common.{◌≡◌, ℕ, zero, suc, ◌+◌, ◌-◌, ◌*◌, ◌<◌, ◌≤◌, true, false, List, [], ◌∷◌, refl, ap, sym, subst, ◌∙◌, arith, slice_index, get_or-set_other, inl, inr}
use Rattle.std.specs.Prelude.{nat_le, slice_set}
use Rattle.std.proofs.lemmas.Bool.{cases_eq}
use Rattle.std.proofs.lemmas.Bool.Decides.{nat_tests}
use Rattle.catalog.specs.Kinds.{place_in}
use Rattle.catalog.specs.declared.classes.TheConstants.{UNIT_KINDS}
use Rattle.catalog.specs.declared.kind.Kind.{Kind}
use Rattle.planet_cell.proofs.Seconds.{times_planet}
use Rattle.planet_cell.specs.Yard.{ChangeNoYields, IsAhead, further, ticked_yard, with_unit, yard_second}
use Rattle.rates.proofs.Repetition.{times_add}
use Rattle.rates.specs.Production.{produced_once}
use Rattle.rates.specs.Times.{times}
use Rattle.rates.specs.Yields.{hourly_of}
use Rattle.tick_model.specs.Buildings.{Works}
use Rattle.tick_model.specs.Production.{level_of, limits_of, planet_second, works_of, yields_of}
use Rattle.tick_model.specs.Universe.{Item, PlanetFields}
use Rattle.tick_model.specs.Yards.{count_of, manned}

-- some seconds, and after some more, are as many as both together
pub ticked_add : (speed from first second : ℕ) (works : Works) → ticked_yard speed (from + first) second (ticked_yard speed from first works) ≡ ticked_yard speed from (first + second) works
unfolding ticked_yard
ticked_add speed from first zero works = let none : first + 0 ≡ first = omega arith in rw none refl
ticked_add speed from first (suc second) works =
    let next : first + suc second ≡ suc (first + second) = omega arith in
    let now : from + first + suc second ≡ from + suc (first + second) = omega arith in
    rw next (λ i. yard_second speed (now i) (ticked_add speed from first second works i))

-- a second in which no unit is due
quiet_second : (speed now : ℕ) (planet : PlanetFields) (queue : List Item) → IsAhead now queue
    → yard_second speed now (record { planet = planet; queue = queue }) ≡ record { planet = planet_second speed planet; queue = queue }
quiet_second speed now planet [] ahead = refl
quiet_second speed now planet (batch ∷ later) ahead =
    let later_due : nat_le batch.second now ≡ false = grind (arith, nat_tests) in rw later_due refl

sooner_ahead : (now before : ℕ) (queue : List Item) → before ≤ now → IsAhead now queue → IsAhead before queue
sooner_ahead now before [] within ahead = tt
sooner_ahead now before (batch ∷ later) within ahead = omega arith

-- while no unit is due, a planet gains and its yard stays
pub quiet : (speed from seconds : ℕ) (planet : PlanetFields) (queue : List Item) → IsAhead (from + seconds) queue
    → ticked_yard speed from seconds (record { planet = planet; queue = queue }) ≡ record { planet = times seconds (planet_second speed) planet; queue = queue }
unfolding ticked_yard times
quiet speed from zero planet queue ahead = refl
quiet speed from (suc seconds) planet queue ahead =
    ap (yard_second speed (from + suc seconds)) (quiet speed from seconds planet queue (sooner_ahead (from + suc seconds) (from + seconds) queue (omega arith) ahead))
    ∙ quiet_second speed (from + suc seconds) (times seconds (planet_second speed) planet) queue ahead

-- what is written again where it stands changes nothing
set_itself : (numbers : List ℕ) (place : ℕ) → slice_set numbers place (slice_index numbers place + 0) ≡ numbers
set_itself [] place = refl
set_itself (first ∷ later) zero = let same : first + 0 ≡ first = omega arith in ap (λ (n : ℕ). n ∷ later) same
set_itself (first ∷ later) (suc place) = ap (λ (xs : List ℕ). first ∷ xs) (set_itself later place)

-- some more at a place, and after some more
set_twice : (numbers : List ℕ) (place one two : ℕ)
    → slice_set (slice_set numbers place (slice_index numbers place + one)) place (slice_index (slice_set numbers place (slice_index numbers place + one)) place + two)
    ≡ slice_set numbers place (slice_index numbers place + (one + two))
set_twice [] place one two = refl
set_twice (first ∷ later) zero one two = let sums : first + one + two ≡ first + (one + two) = omega arith in ap (λ (n : ℕ). n ∷ later) sums
set_twice (first ∷ later) (suc place) one two = ap (λ (xs : List ℕ). first ∷ xs) (set_twice later place one two)

pub manned_none : (planet : PlanetFields) (kind : Kind) → manned planet kind 0 ≡ planet
unfolding manned count_of
manned_none planet kind = ap (λ (units : List ℕ). record planet { units = units }) (set_itself planet.units (place_in UNIT_KINDS kind))

pub manned_more : (planet : PlanetFields) (kind : Kind) (one two : ℕ) → manned (manned planet kind one) kind two ≡ manned planet kind (one + two)
unfolding manned count_of
manned_more planet kind one two = ap (λ (units : List ℕ). record planet { units = units }) (set_twice planet.units (place_in UNIT_KINDS kind) one two)

satellites_stay : (units : List ℕ) (place count : ℕ) → (place ≡ 13 → count ≡ 0) → slice_index (slice_set units place (slice_index units place + count)) 13 ≡ slice_index units 13
satellites_stay units place count none =
    elim (cases_eq place 13) [
      | inl here ↦ ap (λ (n : ℕ). slice_index (slice_set units place (slice_index units place + n)) 13) (none here) ∙ ap (λ (xs : List ℕ). slice_index xs 13) (set_itself units place)
      | inr there ↦ get_or-set_other units _ _ _ _ (λ same. there (sym same))
    ]

-- a second of a planet with other units, but as many satellites
second_manned : (speed : ℕ) (planet : PlanetFields) (units : List ℕ) → slice_index units 13 ≡ slice_index planet.units 13
    → planet_second speed (record planet { units = units }) ≡ record (planet_second speed planet) { units = units }
unfolding planet_second limits_of yields_of works_of level_of
second_manned speed planet units same =
    ap (λ (satellites : ℕ). record planet { units = units; stock = produced_once (limits_of planet) (hourly_of (record (works_of planet) { satellites = satellites }) speed) planet.stock }) same

units_stay : (speed seconds : ℕ) (planet : PlanetFields) → (times seconds (planet_second speed) planet).units ≡ planet.units
units_stay speed seconds planet = ap (λ (x : PlanetFields). x.units) (times_planet speed seconds planet)

-- so many seconds of it
times_units : (speed seconds : ℕ) (planet : PlanetFields) (units : List ℕ) → slice_index units 13 ≡ slice_index planet.units 13
    → times seconds (planet_second speed) (record planet { units = units }) ≡ record (times seconds (planet_second speed) planet) { units = units }
unfolding times
times_units speed zero planet units same = refl
times_units speed (suc seconds) planet units same =
    ap (planet_second speed) (times_units speed seconds planet units same)
    ∙ second_manned speed (times seconds (planet_second speed) planet) units (same ∙ ap (λ (xs : List ℕ). slice_index xs 13) (sym (units_stay speed seconds planet)))

-- units that change no yields can stand before or after some seconds
pub times_manned : (speed seconds : ℕ) (planet : PlanetFields) (kind : Kind) (count : ℕ) → ChangeNoYields kind count
    → times seconds (planet_second speed) (manned planet kind count) ≡ manned (times seconds (planet_second speed) planet) kind count
unfolding manned count_of
times_manned speed seconds planet kind count none =
    let place = place_in UNIT_KINDS kind in
    let after = times seconds (planet_second speed) planet in
    times_units speed seconds planet (slice_set planet.units place (slice_index planet.units place + count)) (satellites_stay planet.units place count none)
    ∙ ap (λ (xs : List ℕ). record after { units = slice_set xs place (slice_index xs place + count) }) (sym (units_stay speed seconds planet))

-- a unit is due that isn't the last one of its batch
due_more : (speed now : ℕ) (planet : PlanetFields) (batch : Item) (later : List Item) → batch.second ≤ now → 1 < batch.left
    → yard_second speed now (record { planet = planet; queue = batch ∷ later })
    ≡ record { planet = manned (planet_second speed planet) batch.kind 1; queue = record batch { left = batch.left - 1; second = batch.second + batch.unit_seconds } ∷ later }
due_more speed now planet batch later due more =
    let is_due : nat_le batch.second now ≡ true = grind (arith, nat_tests) in
    let more_left : nat_le batch.left 1 ≡ false = grind (arith, nat_tests) in
    rw (is_due, more_left) refl

-- a unit is due
due_now : (speed now : ℕ) (planet : PlanetFields) (batch : Item) (later : List Item) → batch.second ≤ now
    → yard_second speed now (record { planet = planet; queue = batch ∷ later }) ≡ with_unit speed (planet_second speed planet) batch later
due_now speed now planet batch later due =
    let is_due : nat_le batch.second now ≡ true = grind (arith, nat_tests) in rw is_due refl

-- a second after some units
second_after : (speed : ℕ) (planet : PlanetFields) (kind : Kind) (count : ℕ) → ChangeNoYields kind count → planet_second speed (manned planet kind count) ≡ manned (planet_second speed planet) kind count
unfolding times
second_after speed planet kind count none = times_manned speed 1 planet kind count none

-- what a planet and its yard are when so many units of a batch are done, and before the next one is
abbrev reached : ℕ → ℕ → ℕ → PlanetFields → Item → List Item → Works
reached speed seconds count planet batch later = record { planet = manned (times seconds (planet_second speed) planet) batch.kind count; queue = further batch count ∷ later }

-- in the second after it the next unit is done
next_done : (speed from seconds count : ℕ) (planet : PlanetFields) (batch : Item) (later : List Item)
    → from + seconds + 1 ≡ batch.second + count * batch.unit_seconds → count + 1 < batch.left → ChangeNoYields batch.kind count
    → yard_second speed (from + suc seconds) (reached speed seconds count planet batch later) ≡ reached speed (suc seconds) (count + 1) planet batch later
unfolding times
next_done speed from seconds count planet batch later now more none =
    let after = times seconds (planet_second speed) planet in
    let left : batch.left - count - 1 ≡ batch.left - (count + 1) = omega arith in
    let second : batch.second + count * batch.unit_seconds + batch.unit_seconds ≡ batch.second + (count + 1) * batch.unit_seconds = omega arith in
    let planets : manned (planet_second speed (manned after batch.kind count)) batch.kind 1 ≡ manned (planet_second speed after) batch.kind (count + 1) =
    ap (λ (x : PlanetFields). manned x batch.kind 1) (second_after speed after batch.kind count none) ∙ manned_more (planet_second speed after) batch.kind count 1 in
    due_more speed (from + suc seconds) (manned after batch.kind count) (further batch count) later (omega arith) (omega arith)
    ∙ (λ i. record { planet = planets i; queue = record batch { left = left i; second = second i } ∷ later })

-- and after some seconds go by
goes_by : (speed from seconds more count : ℕ) (planet : PlanetFields) (batch : Item) (later : List Item)
    → from + seconds + more < batch.second + count * batch.unit_seconds → ChangeNoYields batch.kind count
    → ticked_yard speed (from + seconds) more (reached speed seconds count planet batch later) ≡ reached speed (seconds + more) count planet batch later
goes_by speed from seconds more count planet batch later ahead none =
    let after = times seconds (planet_second speed) planet in
    let planets : times more (planet_second speed) (manned after batch.kind count) ≡ manned (times (seconds + more) (planet_second speed) planet) batch.kind count =
    times_manned speed more after batch.kind count none ∙ ap (λ (x : PlanetFields). manned x batch.kind count) (times_add more seconds (planet_second speed) planet) in
    quiet speed (from + seconds) more (manned after batch.kind count) (further batch count ∷ later) ahead
    ∙ (λ i. record { planet = planets i; queue = further batch count ∷ later })

one_more : (speed from seconds more count : ℕ) (planet : PlanetFields) (batch : Item) (later : List Item) (works : Works)
    → more + 1 ≡ batch.unit_seconds → from + seconds + 1 ≡ batch.second + count * batch.unit_seconds → count + 1 < batch.left → ChangeNoYields batch.kind count → ChangeNoYields batch.kind (count + 1)
    → ticked_yard speed from seconds works ≡ reached speed seconds count planet batch later
    → ticked_yard speed from (suc seconds + more) works ≡ reached speed (suc seconds + more) (count + 1) planet batch later
unfolding ticked_yard
one_more speed from seconds more count planet batch later works takes now fewer none no_more here =
    let done : ticked_yard speed from (suc seconds) works ≡ reached speed (suc seconds) (count + 1) planet batch later =
    ap (yard_second speed (from + suc seconds)) here ∙ next_done speed from seconds count planet batch later now fewer none in
    sym (ticked_add speed from (suc seconds) more works)
    ∙ ap (ticked_yard speed (from + suc seconds) more) done
    ∙ goes_by speed from (suc seconds) more (count + 1) planet batch later (omega arith) no_more

-- so many units of a batch, that change no yields, are done
ahead_units : (speed from count : ℕ) (planet : PlanetFields) (batch : Item) (later : List Item) (seconds : ℕ)
    → from + seconds + 1 ≡ batch.second + count * batch.unit_seconds → from < batch.second → count < batch.left → 1 ≤ batch.unit_seconds → ((some : ℕ) → some ≤ count → ChangeNoYields batch.kind some)
    → ticked_yard speed from seconds (record { planet = planet; queue = batch ∷ later }) ≡ reached speed seconds count planet batch later
ahead_units speed from zero planet batch later seconds now ahead fewer takes none =
    let left : batch.left ≡ batch.left - 0 = omega arith in
    let second : batch.second ≡ batch.second + 0 * batch.unit_seconds = omega arith in
    let after = times seconds (planet_second speed) planet in
    quiet speed from seconds planet (batch ∷ later) (omega arith)
    ∙ (λ i. record { planet = sym (manned_none after batch.kind) i; queue = record batch { left = left i; second = second i } ∷ later })
ahead_units speed from (suc count) planet batch later seconds now ahead fewer takes none =
    let before = seconds - batch.unit_seconds in
    let more = batch.unit_seconds - 1 in
    let all : suc before + more ≡ seconds = omega arith in
    let so_far = ahead_units speed from count planet batch later before (omega arith) ahead (omega arith) takes (λ some within. none some (omega arith)) in
    let next : count + 1 ≡ suc count = omega arith in
    let result : ticked_yard speed from (suc before + more) (record { planet = planet; queue = batch ∷ later }) ≡ reached speed (suc before + more) (count + 1) planet batch later =
    one_more speed from before more count planet batch later _ (omega arith) (omega arith) (omega arith) (none count (omega arith)) (none (count + 1) (omega arith)) so_far in
    let family = λ (s c : ℕ). ticked_yard speed from s (record { planet = planet; queue = batch ∷ later }) ≡ reached speed s c planet batch later in
    subst (λ (s : ℕ). family s (suc count)) all (subst (family (suc before + more)) next result)

-- the next unit after them is done
pub unit_at : (speed from seconds count : ℕ) (planet : PlanetFields) (batch : Item) (later : List Item)
    → from + seconds ≡ batch.second + count * batch.unit_seconds → from < batch.second → count < batch.left → 1 ≤ batch.unit_seconds → ((some : ℕ) → some ≤ count → ChangeNoYields batch.kind some)
    → ticked_yard speed from seconds (record { planet = planet; queue = batch ∷ later }) ≡ with_unit speed (manned (times seconds (planet_second speed) planet) batch.kind count) (further batch count) later
unfolding ticked_yard times
unit_at speed from zero count planet batch later now ahead fewer takes none = absurd (omega arith)
unit_at speed from (suc seconds) count planet batch later now ahead fewer takes none =
    let after = times seconds (planet_second speed) planet in
    ap (yard_second speed (from + suc seconds)) (ahead_units speed from count planet batch later seconds (omega arith) ahead fewer takes none)
    ∙ due_now speed (from + suc seconds) (manned after batch.kind count) (further batch count) later (omega arith)
    ∙ ap (λ (x : PlanetFields). with_unit speed x (further batch count) later) (second_after speed after batch.kind count (none count (omega arith)))
