use Rattle.std.proofs.Common.{◌≡◌, ◌∙◌, sym, refl, subst, Option, Some}
use Rattle.std.specs.Prelude.{IfSome, IsSome}
use Rattle.std.specs.BTreeMap.{get}
use Rattle.happenings.specs.Orders.{place_order}
use Rattle.happenings.specs.declared.held.PlanetCell.{PlanetCell}
use Rattle.happenings.proofs.Putting.{placed_anew}
use Rattle.happenings.proofs.Researched.{gains_here}
use Rattle.happenings.proofs.researching.gain_payer.Goals as goal

pub returns-in-Some-clause-gains : goal.returns-in-Some-clause-gains
returns-in-Some-clause-gains c =
    let old = c.args.planets.now in
    let at = c.args.at in
    let now = c.gain_to.new.self in
    let found : get place_order old at ≡ Some c.in-Some.cell.now = sym c.in-Some.ensures.value in
    let there : IsSome (get place_order old at) = subst IsSome (sym found) refl in
    gains_here c.args.rules.now c.args.second at old (c.get_mut.follows.lender now) c.in-Some.cell.now now found ((c.get_mut.follows.holds now).3 there) c.gain_to.ensures.stand

pub returns-in-Some-clause-placed : goal.returns-in-Some-clause-placed
returns-in-Some-clause-placed c placed =
    let old = c.args.planets.now in
    let at = c.args.at in
    let now = c.gain_to.new.self in
    let found : get place_order old at ≡ Some c.in-Some.cell.now = sym c.in-Some.ensures.value in
    let there : IsSome (get place_order old at) = subst IsSome (sym found) refl in
    let name = subst (λ (o : Option PlanetCell). IfSome o (λ cell. cell.planet.at ≡ at)) found (placed at) in
    placed_anew old (c.get_mut.follows.lender now) at now ((c.get_mut.follows.holds now).3 there) (c.gain_to.ensures.at ∙ name) placed
