use Rattle.std.proofs.Common.{◌≡◌, ◌∙◌, ap, arith, sym}
use Rattle.account_cell.specs.Account.{account_fields, research_of}
use Rattle.orders.proofs.Granted.{not_researched, researched_on_copy}
use Rattle.orders.proofs.Paying.{research_payable}
use Rattle.orders.specs.declared.parts.Acted.{Acted}
use Rattle.planet_cell.specs.Planet.{fields_of}
use Rattle.orders.proofs.ordering.research.Goals as goal

pub returns-then-code-gt0-clause-ordered : goal.returns-then-code-gt0-clause-ordered
returns-then-code-gt0-clause-ordered c =
    λ sight seen.
    not_researched sight c.args.rules.now c.args.moment c.args.account.now c.args.technology.kind c.args.planet.now c.refused.result seen
    (ap (λ (x : Acted). x.code) c.refused.ensures ∙ c.research_refusal-code.ensures.value) (omega (arith, ap (λ (x : Acted). x.code) c.refused.ensures)) (ap (λ (x : Acted). x.body) c.refused.ensures)

pub pay_research-requires-clause-payable : goal.pay_research-requires-clause-payable
pay_research-requires-clause-payable c =
    let zero : c.research_refusal-code.result ≡ 0 = omega arith in
    research_payable c.args.rules.now.speed (account_fields c.args.account.now) (fields_of c.args.planet.now) (research_of c.args.account.now) c.args.technology.kind (sym c.research_refusal-code.ensures.value ∙ zero)

pub returns-clause-ordered : goal.returns-clause-ordered
returns-clause-ordered c =
    λ sight seen.
    let zero : c.research_refusal-code.result ≡ 0 = omega arith in
    researched_on_copy sight c.args.rules.now c.args.moment c.args.account.now c.in_ok-next.next c.order_research.new.self c.args.technology.kind c.args.planet.now c.pay_research.new.planet _ c.in_ok-placed.placed seen
    c.in_ok-next.ensures (sym c.research_refusal-code.ensures.value ∙ zero) zero c.in_ok-body.ensures c.pay_research.ensures.at
    (c.in_ok-placed.ensures.ok (fields_of c.args.planet.now) c.lab.ensures.value) c.pay_research.ensures.fields c.pay_research.ensures.buildings c.pay_research.ensures.yard
    (c.in_ok-placed.ensures.research (fields_of c.args.planet.now) c.lab.ensures.value) c.in_ok-placed.ensures.fields c.in_ok-placed.ensures.keeps
