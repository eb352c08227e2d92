use Rattle.std.specs.Prelude.{[]}
use Rattle.std.proofs.Common.{refl, subst}
use Rattle.closure.specs.Lists.{has}
use Rattle.closure.specs.Naming.{AddsListed}
use Rattle.closure.proofs.Naming.{adds-more, adds-nothing, whole}
use Rattle.closure.proofs.asking.add_all.Goals as goal

pub some-init : goal.some-init
some-init c = adds-nothing c.args.places.now (has []) c.args.ids.now (λ cell. refl)

pub some-preserved : goal.some-preserved
some-preserved c =
    adds-more c.args.places.now c.args.some.now c.id-item.result c.some.id-index c.args.ids.now c.some.ids c.add_listed.new.ids c.some-test.true c.id-item.is c.some.invariant c.in_ok-add_listed.ensures

pub returns : goal.returns
returns c = subst (λ some. AddsListed c.args.places.now (has some) c.args.ids.now c.some.ids) (whole c.args.some.now c.some.id-index c.some-test.false) c.some.invariant
