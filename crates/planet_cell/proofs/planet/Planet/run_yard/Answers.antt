use Rattle.std.proofs.Common.{◌≡◌, ℕ, ◌+◌, ◌-◌, ◌*◌, ◌<◌, ◌≤◌, ap, arith, subst, sym, ◌∙◌}
use Rattle.planet_cell.proofs.Yards.{ahead_first, builds_then, ends, goes_on, has_more, turned}
use Rattle.planet_cell.specs.Planet.{batches_of, fields_of}
use Rattle.planet_cell.specs.Yard.{IsAhead, yard_of}
use Rattle.planet_cell.proofs.planet.Planet.run_yard.Goals as goal

pub overflow_sub-last : goal.overflow_sub-last
overflow_sub-last c =
    let planet = c.batches.self in
    omega (arith, ahead_first c.batches.now planet.at planet.yard.items c.in-Some.batch c.batches.invariant.ahead c.in-Some.ensures.first)

pub build_ahead-requires : goal.build_ahead-requires
build_ahead-requires c =
    let planet = c.batches.self in
    has_more c.args.until c.more_units-more.result planet.at planet.yard.items c.in-Some.batch (batches_of c.advance.new.self) c.in-Some.ensures c.more_units-more.ensures c.requires.latest c.advance.ensures.yard

pub finish_unit-requires-clause-yard : goal.finish_unit-requires-clause-yard
finish_unit-requires-clause-yard c =
    let planet = c.batches.self in
    builds_then c.args.until c.more_units-more.result planet.at planet.yard.items c.in-Some.batch (yard_of c.advance.new.self) (yard_of c.build_ahead.new.self) c.in-Some.ensures c.more_units-more.ensures c.requires.latest c.advance.ensures.yard c.build_ahead.ensures.works

pub batches-smaller : goal.batches-smaller
batches-smaller c =
    let planet = c.batches.self in
    let count : c.from.result * c.in-Some.batch.unit_seconds ≡ c.more_units-more.result * c.in-Some.batch.unit_seconds = ap (λ (n : ℕ). n * c.in-Some.batch.unit_seconds) c.from.ensures in
    let next : c.batches.now < c.in-Some.batch.second = ahead_first c.batches.now planet.at planet.yard.items c.in-Some.batch c.batches.invariant.ahead c.in-Some.ensures.first in
    (turned c.args.speed c.batches.now c.args.until _ c.more_units-more.result (fields_of planet) planet.at planet.yard.items c.in-Some.batch (yard_of c.advance.new.self) (yard_of c.build_ahead.new.self) (yard_of c.finish_unit.new.self)
    c.in-Some.ensures planet.first_begun c.batches.invariant.ahead c.more_units-more.ensures (omega arith)
    (λ i. record { planet = c.advance.ensures.fields i; queue = c.advance.ensures.yard i }) c.build_ahead.ensures.works c.finish_unit.ensures.built).fewer

pub batches-preserved : goal.batches-preserved
batches-preserved c =
    let planet = c.batches.self in
    let batch = c.in-Some.batch in
    let last = batch.second + c.from.result * batch.unit_seconds in
    let count : c.from.result * batch.unit_seconds ≡ c.more_units-more.result * batch.unit_seconds = ap (λ (n : ℕ). n * batch.unit_seconds) c.from.ensures in
    let next : c.batches.now < batch.second = ahead_first c.batches.now planet.at planet.yard.items batch c.batches.invariant.ahead c.in-Some.ensures.first in
    let within : last ≤ c.args.until = omega (arith, c.more_units-more.ensures.done) in
    let come : last ≡ c.batches.now + (last - c.batches.now) = omega arith in
    let turn =
    turned c.args.speed c.batches.now c.args.until (last - c.batches.now) c.more_units-more.result (fields_of planet) planet.at planet.yard.items batch (yard_of c.advance.new.self) (yard_of c.build_ahead.new.self) (yard_of c.finish_unit.new.self)
    c.in-Some.ensures planet.first_begun c.batches.invariant.ahead c.more_units-more.ensures (omega arith)
    (λ i. record { planet = c.advance.ensures.fields i; queue = c.advance.ensures.yard i }) c.build_ahead.ensures.works c.finish_unit.ensures.built in
    record {
      works =
          goes_on c.args.speed c.batches.now (last - c.batches.now) last c.args.until (yard_of planet) (yard_of c.finish_unit.new.self) turn come within
          ∙ c.batches.invariant.works;
      ahead = subst (λ (n : ℕ). IsAhead n (batches_of c.finish_unit.new.self)) (sym come) turn.ahead;
      order = within;
      buildings = c.finish_unit.ensures.buildings ∙ c.build_ahead.ensures.buildings ∙ c.advance.ensures.buildings ∙ c.batches.invariant.buildings;
      at = c.finish_unit.ensures.at ∙ c.build_ahead.ensures.at ∙ c.advance.ensures.at ∙ c.batches.invariant.at;
    }

pub returns-clause-works : goal.returns-clause-works
returns-clause-works c =
    let planet = c.batches.self in
    ends c.args.speed c.batches.now c.args.until (fields_of planet) (batches_of planet) (yard_of c.advance-2.new.self) c.batches.invariant.order c.in_default.ensures
    (λ i. record { planet = c.advance-2.ensures.fields i; queue = c.advance-2.ensures.yard i })
    ∙ c.batches.invariant.works
