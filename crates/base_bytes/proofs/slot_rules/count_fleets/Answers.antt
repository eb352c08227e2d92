use Rattle.std.proofs.Common.{arith}
use Rattle.base_bytes.proofs.Slots.{own-fewer}
use Rattle.base_bytes.proofs.slot_rules.count_fleets.Goals as goal

pub overflow_add-count : goal.overflow_add-count
overflow_add-count c =
    let owner = c.fleet-item.result.owner in
    let fewer = own-fewer owner c.args.fleets.now c.fleets.fleet-index c.fleets-test.true in
    let counted = c.fleets.invariant owner in
    omega (arith, fewer, counted, c.fleet_count-count.ensures)
