-- The bytes that aren't left have been written.
use Rattle.std.proofs.Common.{◌≡◌, ℕ, List, ◌++◌, length}
use Rattle.std.specs.Io.KnownBytes.{Appends}
use Rattle.command.proofs.streams.write_all.Given as goal

abbrev pub invariant-pieces : goal.invariant-pieces
invariant-pieces g l =
    let sink = g.K.Sink in
    ((gone : List ℕ) × Appends (sink.written l.initial.sink) (sink.written l.sink) gone × (l.bytes ≡ gone ++ l.rest))
    × (sink.faults l.sink ≡ sink.faults l.initial.sink)

abbrev pub decreases-pieces : goal.decreases-pieces
decreases-pieces g l = length l.rest
