use Rattle.std.proofs.Common.{arith}
use Rattle.base_bytes.proofs.fields.next_player.Goals as goal

pub returns : goal.returns
returns c = λ player more is.
    let number = c.next_u32.ensures player.k more (omega (arith, player.to)) is in
    (c.player.ensures player number.0, number.1)
