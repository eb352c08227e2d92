use Rattle.std.proofs.Common.{◌≡◌, ◌∙◌, ap, arith, sym}
use Rattle.orders.proofs.Granted.{not_yarded, yarded_on_copy}
use Rattle.orders.proofs.Paying.{can_order_units, within_ceiling}
use Rattle.orders.specs.declared.parts.Acted.{Acted}
use Rattle.orders.proofs.ordering.order_units.Goals as goal

pub returns-then-code-gt0-clause-ordered : goal.returns-then-code-gt0-clause-ordered
returns-then-code-gt0-clause-ordered c =
    λ sight seen.
    not_yarded sight c.args.rules.now c.args.moment c.args.account.now c.args.unit.kind c.args.count.n c.args.planet.now c.refused.result seen
    (ap (λ (x : Acted). x.code) c.refused.ensures ∙ c.yard_refusal-code.ensures) (omega (arith, ap (λ (x : Acted). x.code) c.refused.ensures)) (ap (λ (x : Acted). x.body) c.refused.ensures)

pub order_batch-requires-clause-order : goal.order_batch-requires-clause-order
order_batch-requires-clause-order c =
    let zero : c.yard_refusal-code.result ≡ 0 = omega arith in
    can_order_units c.args.account.now c.args.planet.now c.in_ok-next.next c.args.unit.kind c.args.count.n c.in_ok-next.ensures (sym c.yard_refusal-code.ensures ∙ zero) c.requires.counted

pub add_units-requires : goal.add_units-requires
add_units-requires c =
    let zero : c.yard_refusal-code.result ≡ 0 = omega arith in
    within_ceiling c.args.account.now c.args.planet.now c.args.unit.kind c.args.count.n (sym c.yard_refusal-code.ensures ∙ zero)

pub returns-clause-ordered : goal.returns-clause-ordered
returns-clause-ordered c =
    λ sight seen.
    let zero : c.yard_refusal-code.result ≡ 0 = omega arith in
    yarded_on_copy sight c.args.rules.now c.args.moment c.args.account.now c.add_units.new.self c.args.unit.kind c.args.count.n c.args.planet.now c.in_ok-next.next c.order_batch.new.self _ c.in_ok-placed.placed seen
    c.in_ok-next.ensures (sym c.yard_refusal-code.ensures ∙ zero) zero c.in_ok-body.ensures c.in_ok-placed.ensures.at
    c.in_ok-placed.ensures.ok c.in_ok-placed.ensures.works c.in_ok-placed.ensures.buildings (record { units = c.add_units.ensures.units; keeps = c.add_units.ensures.keeps })
