use Rattle.std.proofs.Common.{◌++◌, arith, length, subst, sym, take}
use Rattle.std.proofs.KnownBytes.{Appends-kept, Appends-trans}
use Rattle.std.specs.Io.KnownBytes.{Appends}
use Rattle.command.proofs.Streaming.{on_err, written_front, written_more}
use Rattle.command.proofs.streams.write_all.Goals as goal

pub pieces-preserved : goal.pieces-preserved
pieces-preserved g c =
    let written = g.K.Sink.written in
    let wrote = c.in_ok-count.ensures in
    let before = c.pieces.invariant in
    let gone = before.0.0 in
    let piece = take c.in_ok-count.count c.pieces.rest.now in
    let appended = Appends-trans (written c.args.sink.now) (written c.pieces.sink) (written c.write.new.self) gone piece before.0.1 wrote.bytes in
    let later = wrote.cause.later in
    ((gone ++ piece, appended, written_more c.args.bytes.now gone c.pieces.rest.now c.in_ok-count.count before.0.2), omega (arith, before.1, later))

pub returns-in_err-count-clause-front : goal.returns-in_err-count-clause-front
returns-in_err-count-clause-front g c =
    let written = g.K.Sink.written in
    let before = c.pieces.invariant in
    let gone = before.0.0 in
    let front = written_front c.args.bytes.now gone c.pieces.rest.now before.0.2 in
    let kept = Appends-kept (written c.args.sink.now) (written c.pieces.sink) (written c.write.new.self) gone before.0.1 c.in_err-count.ensures.bytes in
    on_err c.from_residual.result (length gone, subst (Appends (written c.args.sink.now) (written c.write.new.self)) (sym front) kept)
