use Rattle.std.proofs.Common.{◌≡◌, ◌∙◌, ap, arith, sym}
use Rattle.orders.proofs.Granted.{built_on_copy, not_built}
use Rattle.orders.specs.declared.parts.Acted.{Acted}
use Rattle.orders.proofs.ordering.build.Goals as goal

pub returns-clause-built : goal.returns-clause-built
returns-clause-built c =
    λ sight seen.
    let zero : c.build_refusal-code.result ≡ 0 = omega arith in
    built_on_copy sight c.args.rules.now c.args.moment c.args.account.now c.args.building.kind c.args.planet.now c.in_ok-next.next c.order_building.new.self _ c.in_ok-placed.placed seen
    c.in_ok-next.ensures (sym c.build_refusal-code.ensures ∙ zero) zero c.in_ok-body.ensures c.in_ok-placed.ensures.at
    c.in_ok-placed.ensures.ok c.in_ok-placed.ensures.works c.in_ok-placed.ensures.yard

pub returns-then-code-gt0-clause-built : goal.returns-then-code-gt0-clause-built
returns-then-code-gt0-clause-built c =
    λ sight seen.
    not_built sight c.args.rules.now c.args.moment c.args.account.now c.args.building.kind c.args.planet.now c.refused.result seen
    (ap (λ (x : Acted). x.code) c.refused.ensures ∙ c.build_refusal-code.ensures) (omega (arith, ap (λ (x : Acted). x.code) c.refused.ensures)) (ap (λ (x : Acted). x.body) c.refused.ensures)
