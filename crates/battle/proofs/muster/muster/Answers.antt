use Rattle.std.proofs.Common.{arith}
use Rattle.battle.specs.Arrays.{all_seen}
use Rattle.battle.proofs.Counts.{no_part}
use Rattle.battle.proofs.Musters.{part_room}
use Rattle.battle.proofs.Shown.{length_seen}
use Rattle.battle.proofs.muster.muster.Goals as goal

pub add_part-requires-clause-room : goal.add_part-requires-clause-room
add_part-requires-clause-room c =
    let now = all_seen c.parts.table.items 0 c.parts.units.items in
    let room = part_room now c.args.parts.now c.parts.place no_part (omega arith) c.parts.invariant.same in
    let many = length_seen c.parts.table.items 0 c.parts.units.items in
    omega (arith, room, many, c.requires)
