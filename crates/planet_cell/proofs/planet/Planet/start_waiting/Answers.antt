use Rattle.std.proofs.Common.{ap, ◌∙◌, sym}
use Rattle.planet_cell.proofs.Queues.{caps_started, first_below}
use Rattle.planet_cell.proofs.Starts.{starts_none, starts_now}
use Rattle.planet_cell.specs.Planet.{fields_of}
use Rattle.tick_model.specs.Universe.{Item}
use Rattle.planet_cell.proofs.planet.Planet.start_waiting.Goals as goal

pub next_price-price-requires : goal.next_price-price-requires
next_price-price-requires c = first_below (fields_of c.waiting.self) _ _ c.waiting.self.within_levels c.in-Some.ensures

pub started-running-requires-clause-level : goal.started-running-requires-clause-level
started-running-requires-clause-level c = first_below (fields_of c.waiting.self) _ _ c.waiting.self.within_levels c.in-Some.ensures

pub invariant_of-self-clause-within_levels : goal.invariant_of-self-clause-within_levels
invariant_of-self-clause-within_levels c =
    caps_started _ _ c.in-Some.item _ c.waiting.self.within_levels c.in-Some.ensures (ap (λ (item : Item). item.kind) c.started-running.ensures)

pub returns-then-can_pay-clause-works : goal.returns-then-can_pay-clause-works
returns-then-can_pay-clause-works c =
    starts_now c.args.speed c.args.second (fields_of c.waiting.self) c.waiting.self.at c.waiting.self.buildings.items c.in-Some.item c.started-running.result _ c.paid-self.result
    c.in-Some.ensures c.next_price-price.ensures (sym c.if-can_pay.ensures) c.paid-self.ensures.value c.started-running.ensures
    ∙ c.waiting.invariant.works

pub returns-clause-works : goal.returns-clause-works
returns-clause-works c =
    starts_none c.args.speed c.args.second (fields_of c.waiting.self) c.waiting.self.at c.waiting.self.buildings.items c.in_default.ensures
    ∙ c.waiting.invariant.works
