use Rattle.std.proofs.Common.{arith}
use Rattle.catalog.specs.declared.kind.Kind.TheVariants.{MetalMine}
use Rattle.generate.proofs.Continuing.{kind_none, kinds_more}
use Rattle.generate.proofs.head.push_kinds.Goals as goal

pub kinds-init : goal.kinds-init
kinds-init c = kind_none _ _

pub kinds-preserved : goal.kinds-preserved
kinds-preserved c = kinds_more c.args.start.now c.args.kinds.now c.kinds.kind-index (MetalMine, 0) _ _ _ (omega arith) c.kinds.invariant c.in_ok-push_kind.ensures
