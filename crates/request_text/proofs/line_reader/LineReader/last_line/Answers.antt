use Rattle.std.proofs.Common.{◌≡◌, ◌<◌, false, ap, length, arith, subst, sym}
use Rattle.request_text.specs.LineReading.{HasEnded}
use Rattle.request_text.proofs.LineSeeing.{tells-last}
use Rattle.request_text.proofs.line_reader.LineReader.last_line.Goals as goal
use Rattle.request_text.proofs.line_reader.LineReader.last_line.Goals.{else-count-eq0-via-then-count-eq0+else-not-self, else-count-eq0-via-else-count-eq0}

pub returns-clause-tells : goal.returns-clause-tells
returns-clause-tells c =
    let old = c.args.self.now in
    let count = length c.kept-count.result.now in
    let some : old.long ≡ false → 0 < count = λ short. elim c.else-count-eq0.branch [ else-count-eq0-via-then-count-eq0+else-not-self w ↦ absurd (cc (short, w.if-not-self.false)) | else-count-eq0-via-else-count-eq0 w ↦ omega (arith, w.if-count-eq0.false) ] in
    let a = c.answer.ensures in
    tells-last old c.answer.new.self count c.answer.result c.requires.unbroken (ap length c.kept-count.ensures) some a.answers a.kept a.short (subst HasEnded (sym a.stage) tt)
