use Rattle.flight.specs.Fleets.{total}
use Rattle.raids.proofs.Counts.{raised_last}
use Rattle.raids.specs.Losses.{crystal_of, metal_of}
use Rattle.raids.specs.Parts.{raider_parts}
use Rattle.tick_model.specs.Battles.{losses, wrecks}
use Rattle.raids.proofs.wrecking.debris_left.Goals as goal

pub returns : goal.returns
returns c =
    let lost = losses (raider_parts c.args.raiders.now) c.args.left.now in
    c.debris_after.ensures _
    (raised_last (total metal_of wrecks) lost _ _ _ _ c.wrecks_of-wrecks.ensures.metal c.and.ensures.metal)
    (raised_last (total crystal_of wrecks) lost _ _ _ _ c.wrecks_of-wrecks.ensures.crystal c.and.ensures.crystal)
