use Rattle.std.proofs.Common.{◌≡◌, ◌∙◌, sym, refl, subst, Option, Some}
use Rattle.std.specs.Prelude.{IfSome, IsSome}
use Rattle.std.specs.BTreeMap.{get}
use Rattle.prices.specs.Prices.{cost_in}
use Rattle.happenings.specs.Orders.{place_order}
use Rattle.happenings.specs.declared.held.PlanetCell.{PlanetCell}
use Rattle.happenings.proofs.Putting.{placed_anew}
use Rattle.happenings.proofs.Researched.{level_kept, paid_stand, pays_here}
use Rattle.happenings.proofs.researching.pay.Goals as goal

pub returns-clause-pays : goal.returns-clause-pays
returns-clause-pays c =
    let old = c.args.planets.now in
    let at = c.args.at in
    let cell = c.in-Some.cell.now in
    let now : PlanetCell = record cell { planet = c.pay.new.self } in
    let found : get place_order old at ≡ Some cell = sym c.in-Some.ensures.value in
    let there : IsSome (get place_order old at) = subst IsSome (sym found) refl in
    let price = cost_in c.args.price in
    pays_here price at old (c.get_mut.follows.lender now) cell now found ((c.get_mut.follows.holds now).3 there)
    (paid_stand price cell now refl refl c.pay.ensures.fields c.pay.ensures.buildings c.pay.ensures.yard)

pub returns-clause-lab : goal.returns-clause-lab
returns-clause-lab c cell is =
    level_kept c.args.planets.now c.args.at c.in-Some.cell.now cell c.pay.new.self (cost_in c.args.price) c.lab.result (sym c.in-Some.ensures.value) is c.pay.ensures.fields c.lab.ensures.value

pub returns-clause-placed : goal.returns-clause-placed
returns-clause-placed c placed =
    let old = c.args.planets.now in
    let at = c.args.at in
    let cell = c.in-Some.cell.now in
    let now : PlanetCell = record cell { planet = c.pay.new.self } in
    let found : get place_order old at ≡ Some cell = sym c.in-Some.ensures.value in
    let there : IsSome (get place_order old at) = subst IsSome (sym found) refl in
    let name = subst (λ (o : Option PlanetCell). IfSome o (λ cell. cell.planet.at ≡ at)) found (placed at) in
    placed_anew old (c.get_mut.follows.lender now) at now ((c.get_mut.follows.holds now).3 there) (c.pay.ensures.at ∙ name) placed
