use Rattle.std.proofs.Common.{arith}
use Rattle.catalog.specs.declared.kind.Kind.TheVariants.{MetalMine}
use Rattle.raids.proofs.Counts.{lost_more, raised_all, raised_more}
use Rattle.raids.specs.Losses.{crystal_of, metal_of}
use Rattle.tick_model.specs.Battles.{wrecks}
use Rattle.raids.proofs.wrecking.Wrecks.and.Goals as goal

pub kinds-preserved : goal.kinds-preserved
kinds-preserved c =
    let i = c.kinds.place in
    record {
      metal = raised_more c.kinds.all.metal _ _ _ _ _ _ c.and_some-all.ensures.metal (lost_more metal_of wrecks c.args.before.now c.args.left.now i MetalMine _ (omega arith) (omega arith) (omega arith) c.saturating_sub-lost.ensures) c.kinds.invariant.metal;
      crystal = raised_more c.kinds.all.crystal _ _ _ _ _ _ c.and_some-all.ensures.crystal (lost_more crystal_of wrecks c.args.before.now c.args.left.now i MetalMine _ (omega arith) (omega arith) (omega arith) c.saturating_sub-lost.ensures) c.kinds.invariant.crystal;
    }

pub returns-clause-metal : goal.returns-clause-metal
returns-clause-metal c = raised_all metal_of wrecks _ c.kinds.place c.kinds.all.metal _ _ (omega arith) c.kinds.all.most_metal c.kinds.invariant.metal

pub returns-clause-crystal : goal.returns-clause-crystal
returns-clause-crystal c = raised_all crystal_of wrecks _ c.kinds.place c.kinds.all.crystal _ _ (omega arith) c.kinds.all.most_crystal c.kinds.invariant.crystal
