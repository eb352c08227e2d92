use Rattle.std.proofs.Common.{sym, subst}
use Rattle.request_text.specs.LineReading.{HasEnded, Tells}
use Rattle.request_text.proofs.LineSeeing.{tells-over}
use Rattle.request_text.proofs.LineKnowing.{known-same}
use Rattle.request_text.proofs.line_reader.LineReader.next.Goals as goal

pub returns-in-Over-clause-tells : goal.returns-in-Over-clause-tells
returns-in-Over-clause-tells g c =
    let old = c.args.self.now in
    known-same (g.S.Source.left c.args.src.now) _ (tells-over old old (subst HasEnded (sym c.in-Over.is) tt))

pub returns-in-Last-clause-tells : goal.returns-in-Last-clause-tells
returns-in-Last-clause-tells g c =
    let old = c.args.self.now in
    let new = c.end.new.self in
    known-same (g.S.Source.left c.args.src.now) _ (λ left. subst (Tells old left new left) (sym c.end.ensures.end) (tells-over old new (subst HasEnded (sym c.in-Last.is) tt) left))
