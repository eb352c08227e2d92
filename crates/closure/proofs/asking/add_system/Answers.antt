use Rattle.std.proofs.Common.{◌≡◌, subst, arith}
use Rattle.tick_model.specs.Requests.{in_system}
use Rattle.closure.specs.Naming.{AddsListed}
use Rattle.closure.proofs.Naming.{adds-as, adds-nothing, adds-position, before, before-all, before-none}
use Rattle.closure.proofs.asking.add_system.Goals as goal

pub positions-init : goal.positions-init
positions-init c = adds-nothing c.args.places.now (before c.args.system 1) c.args.ids.now (before-none c.args.system)

pub positions-preserved : goal.positions-preserved
positions-preserved c =
    adds-position c.args.places.now c.args.system c.positions.p c.args.ids.now c.positions.ids c.add_listed.new.ids c.place_in.result c.positions.invariant c.in_ok-add_listed.ensures
    c.place_in.ensures.galaxy c.place_in.ensures.system c.place_in.ensures.position

pub returns : goal.returns
returns c =
    let over = c.positions-test.false in
    let most = c.positions.auto.p-end (omega arith) in
    let end : c.positions.p ≡ 16 = omega (arith, over, most) in
    adds-as c.args.places.now (before c.args.system 16) (in_system c.args.system) c.args.ids.now c.positions.ids (before-all c.args.system)
    (subst (λ p. AddsListed c.args.places.now (before c.args.system p) c.args.ids.now c.positions.ids) end c.positions.invariant)
