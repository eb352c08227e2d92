-- A planet and its yard from one unit to the next, and to a second by which none is due.
use Rattle.std.proofs.Common.{◌≡◌, ℕ, zero, suc, ◌+◌, ◌-◌, ◌*◌, ◌<◌, ◌≤◌, true, false, cond, List, [], ◌∷◌, arith, refl, ap, ◌∙◌, sym, subst}
use Rattle.std.proofs.Math.Path.{fun_ext}
use Rattle.std.proofs.lemmas.List.Sums.{sum_by-cons}
use Rattle.std.specs.Prelude.{nat_le}
use Rattle.happenings.specs.Held.{Stand}
use Rattle.planet_cell.proofs.Spans.{unit_duration_from}
use Rattle.planet_cell.proofs.Ticks.{manned_none, quiet, ticked_add, unit_at}
use Rattle.planet_cell.specs.Yard.{IsAhead, comes_due, further, ticked_yard, with_unit}
use Rattle.rates.specs.Times.{times}
use Rattle.tick_model.specs.Buildings.{Works}
use Rattle.tick_model.specs.Game.{events_left}
use Rattle.tick_model.specs.Production.{cell_second, gains, planet_second}
use Rattle.tick_model.specs.Universe.{Buildings, Researches, Yard, Item, PlanetFields, QueueClass, of_planet}
use Rattle.tick_model.specs.Views.{View}
use Rattle.tick_model.specs.Yards.{begins_first, begun, manned, yard_left}
use Rattle.tick_model.specs.declared.rules.Rules.{Rules}
use Rattle.lazy.specs.Running.{ran, run_until, with_yard}

further-none : (batch : Item) → further batch 0 ≡ batch
further-none batch =
    let left : batch.left - 0 ≡ batch.left = omega arith in
    let second : batch.second + 0 * batch.unit_seconds ≡ batch.second = omega arith in
    λ i. record batch { left = left i; second = second i }

-- the next unit, and then the seconds after it, are as many as all seconds
pub unit-ticks : (speed from until : ℕ) (planet : PlanetFields) (batch : Item) (later : List Item) → from < batch.second → batch.second ≤ until → 1 ≤ batch.left → 1 ≤ batch.unit_seconds
    → ticked_yard speed batch.second (until - batch.second) (with_unit speed (times (batch.second - from) (planet_second speed) planet) batch later)
    ≡ ticked_yard speed from (until - from) (record { planet = planet; queue = batch ∷ later })
unit-ticks speed from until planet batch later ahead by left takes =
    let seconds = batch.second - from in
    let works : Works = record { planet = planet; queue = batch ∷ later } in
    let grown = times seconds (planet_second speed) planet in
    let one : ticked_yard speed from seconds works ≡ with_unit speed (manned grown batch.kind 0) (further batch 0) later =
    unit_at speed from seconds 0 planet batch later (omega arith) ahead left takes (λ some within here. omega arith) in
    let same : with_unit speed (manned grown batch.kind 0) (further batch 0) later ≡ with_unit speed grown batch later =
    (λ i. with_unit speed (manned_none grown batch.kind i) (further-none batch i) later) in
    let last : from + seconds ≡ batch.second = omega arith in
    let rest : seconds + (until - batch.second) ≡ until - from = omega arith in
    ap (ticked_yard speed batch.second (until - batch.second)) (sym (one ∙ same))
    ∙ ap (λ (n : ℕ). ticked_yard speed n (until - batch.second) (ticked_yard speed from seconds works)) (sym last)
    ∙ ticked_add speed from seconds (until - batch.second) works
    ∙ ap (λ (n : ℕ). ticked_yard speed from n works) rest

-- what is left of a yard after a unit is done is due later
begins-ahead : (speed second : ℕ) (planet : PlanetFields) (batches : List Item) → IsAhead second (begins_first speed second planet batches)
begins-ahead speed second planet [] = tt
begins-ahead speed second planet (batch ∷ later) = omega (arith, unit_duration_from speed planet batch.kind)

pub left-ahead : (speed : ℕ) (planet : PlanetFields) (batch : Item) (later : List Item) → 1 ≤ batch.unit_seconds → IsAhead batch.second (yard_left speed planet batch later)
left-ahead speed planet batch later takes =
    elim (nat_le batch.left 1) as (λ last. IsAhead batch.second (cond last (begins_first speed batch.second planet later) (record batch { left = batch.left - 1; second = batch.second + batch.unit_seconds } ∷ later))) [
      | true ↦ begins-ahead speed batch.second planet later
      | false ↦ omega arith
    ]

-- A yard that ticks brings no more events.

left-more : (batch : Item) (later : List Item) → events_left (batch ∷ later) ≡ 1 + batch.left + events_left later
left-more batch later = sum_by-cons (λ (x : Item). 1 + x.left) batch later

begins-left : (speed second : ℕ) (planet : PlanetFields) (batches : List Item) → events_left (begins_first speed second planet batches) ≡ events_left batches
begins-left speed second planet [] = refl
begins-left speed second planet (batch ∷ later) = left-more (begun speed second planet batch) later ∙ sym (left-more batch later)

left-no-more : (speed : ℕ) (planet : PlanetFields) (batch : Item) (later : List Item) → events_left (yard_left speed planet batch later) ≤ events_left (batch ∷ later)
left-no-more speed planet batch later =
    let next : Item = record batch { left = batch.left - 1; second = batch.second + batch.unit_seconds } in
    elim (nat_le batch.left 1) as (λ last. events_left (cond last (begins_first speed batch.second planet later) (next ∷ later)) ≤ events_left (batch ∷ later)) [
      | true ↦ omega (arith, begins-left speed batch.second planet later, left-more batch later)
      | false ↦ omega (arith, left-more batch later, left-more next later)
    ]

due-no-more : (speed now : ℕ) (planet : PlanetFields) (queue : List Item) → events_left (comes_due speed now planet queue).queue ≤ events_left queue
due-no-more speed now planet [] = omega arith
due-no-more speed now planet (batch ∷ later) =
    let left = left-no-more speed planet batch later in
    elim (nat_le batch.second now) as (λ b. events_left (cond b (with_unit speed planet batch later) (record { planet = planet; queue = batch ∷ later })).queue ≤ events_left (batch ∷ later)) [
      | true ↦ left
      | false ↦ omega arith
    ]

pub ticks-no-more : (speed from seconds : ℕ) (works : Works) → events_left (ticked_yard speed from seconds works).queue ≤ events_left works.queue
unfolding ticked_yard
ticks-no-more speed from zero works = omega arith
ticks-no-more speed from (suc seconds) works =
    let before = ticked_yard speed from seconds works in
    let so_far = ticks-no-more speed from seconds works in
    let next = due-no-more speed (from + suc seconds) (planet_second speed before.planet) before.queue in
    omega (arith, so_far, next)

-- What is held of a planet whose yard runs.

-- gains of a planet are seconds of what it has of its own
pub gains-planet : (rules : Rules) (seconds : ℕ) (planet : PlanetFields) (seen : View) → seen.own ≡ of_planet planet
    → gains rules seconds seen ≡ record seen { own = of_planet (times seconds (planet_second rules.speed) planet) }
unfolding times
gains-planet rules zero planet seen is = λ i. record seen { own = is i }
gains-planet rules (suc seconds) planet seen is = ap (cell_second rules) (gains-planet rules seconds planet seen is)

yard-itself : (queue : QueueClass → List Item) (class : QueueClass) → with_yard (queue Yard) queue class ≡ queue class
yard-itself queue Buildings = refl
yard-itself queue Researches = refl
yard-itself queue Yard = refl

yard-twice : (queue : QueueClass → List Item) (one two : List Item) (class : QueueClass) → with_yard two (with_yard one queue) class ≡ with_yard two queue class
yard-twice queue one two Buildings = refl
yard-twice queue one two Researches = refl
yard-twice queue one two Yard = refl

-- while no unit is due, it only gains
pub runs-quiet : (rules : Rules) (from until : ℕ) (planet : PlanetFields) (seen : View) → seen.own ≡ of_planet planet → from ≤ until → IsAhead until (seen.queue Yard)
    → run_until rules until (record { second = from; seen = seen }) ≡ record { second = until; seen = gains rules (until - from) seen }
runs-quiet rules from until planet seen own by ahead =
    let batches = seen.queue Yard in
    let end : until ≡ from + (until - from) = omega arith in
    let ticks = quiet rules.speed from (until - from) planet batches (subst (λ n. IsAhead n batches) end ahead) in
    let stand : Works → Stand = λ works. record { second = until; seen = record seen { own = of_planet works.planet; queue = with_yard works.queue seen.queue } } in
    let grown = times (until - from) (planet_second rules.speed) planet in
    (λ i. record { second = until; seen = record seen { own = (ran rules from until (own i) batches).own; queue = with_yard (ran rules from until (own i) batches).queue seen.queue } })
    ∙ ap stand ticks
    ∙ (λ i. record { second = until; seen = record seen { own = of_planet grown; queue = fun_ext (yard-itself seen.queue) i } })
    ∙ (λ i. record { second = until; seen = sym (gains-planet rules (until - from) planet seen own) i })

-- a planet after its next unit, which is done by a second, comes there to what it came to before
pub runs-on : (rules : Rules) (from until : ℕ) (planet : PlanetFields) (seen : View) (batch : Item) (later : List Item) → seen.own ≡ of_planet planet → seen.queue Yard ≡ batch ∷ later
    → from < batch.second → batch.second ≤ until → 1 ≤ batch.left → 1 ≤ batch.unit_seconds
    → run_until rules until (record {
      second = batch.second;
      seen = record seen {
        own = of_planet (manned (times (batch.second - from) (planet_second rules.speed) planet) batch.kind 1);
        queue = with_yard (yard_left rules.speed (times (batch.second - from) (planet_second rules.speed) planet) batch later) seen.queue;
      };
    })
    ≡ run_until rules until (record { second = from; seen = seen })
runs-on rules from until planet seen batch later own owes ahead by left takes =
    let grown = times (batch.second - from) (planet_second rules.speed) planet in
    let next = yard_left rules.speed grown batch later in
    let ticks = unit-ticks rules.speed from until planet batch later ahead by left takes in
    let came = ticked_yard rules.speed from (until - from) (record { planet = planet; queue = batch ∷ later }) in
    (λ i. record { second = until; seen = record seen { own = of_planet (ticks i).planet; queue = with_yard (ticks i).queue (with_yard next seen.queue) } })
    ∙ (λ i. record { second = until; seen = record seen { own = of_planet came.planet; queue = fun_ext (yard-twice seen.queue next came.queue) i } })
    ∙ (λ i. record {
      second = until;
      seen = record seen { own = (ran rules from until (sym own i) (sym owes i)).own; queue = with_yard (ran rules from until (sym own i) (sym owes i)).queue seen.queue };
    })
