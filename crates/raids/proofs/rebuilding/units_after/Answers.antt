use Rattle.std.proofs.Common.{arith, ◌∙◌}
use Rattle.std.proofs.lemmas.List.{length-set}
use Rattle.catalog.specs.declared.classes.TheConstants.{UNIT_KINDS}
use Rattle.catalog.specs.declared.kind.Kind.TheVariants.{MetalMine}
use Rattle.raids.proofs.Counts.{units_all, units_more}
use Rattle.raids.proofs.rebuilding.units_after.Goals as goal

pub kinds-preserved : goal.kinds-preserved
kinds-preserved c =
    let all = c.kinds.invariant.all in
    record {
      all = length-set c.kinds.units c.kinds.place c.count_after.result ∙ all;
      value = units_more UNIT_KINDS c.args.before.now c.args.left.now c.kinds.units c.kinds.place MetalMine c.count_after.result _ (omega arith) (omega arith) (omega arith) (omega (arith, all))
          c.count_after.ensures c.kinds.invariant.value;
    }

pub returns : goal.returns
returns c = let all = c.kinds.invariant.all in units_all UNIT_KINDS c.args.before.now c.args.left.now c.kinds.units c.kinds.place _ (omega arith) (omega (arith, all)) c.kinds.invariant.value
