use Rattle.std.proofs.Common.{arith}
use Rattle.records.specs.Columns.{place_of}
use Rattle.base_bytes.proofs.queues.next_coord.Goals as goal

pub returns : goal.returns
returns c = λ at more is.
    let place = c.next_place.ensures (place_of at) more (omega (arith, at.system_to)) is in
    (c.coord.ensures at place.0, place.1)
