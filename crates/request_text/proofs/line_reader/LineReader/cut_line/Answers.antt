use Rattle.std.proofs.Common.{◌∙◌, ◌≡◌, arith, length, take}
use Rattle.std.proofs.lemmas.List.{length-take-le}
use Rattle.request_text.specs.LineReading.{kept}
use Rattle.request_text.proofs.LineSeeing.{tells-cut, less-ahead}
use Rattle.request_text.proofs.line_reader.LineReader.cut_line.Goals as goal

pub returns-clause-tells : goal.returns-clause-tells
returns-clause-tells c =
    let old = c.args.self.now in
    let line = rw c.kept.ensures at c.line_length-count.ensures in
    let much : length (take c.args.place (kept old)) ≡ c.args.place = length-take-le c.args.place (kept old) (omega (arith, c.requires.feed.within)) in
    let a = c.answer.ensures in
    tells-cut old c.answer.new.self c.args.place c.line_length-count.result c.answer.result c.requires.feed line.same line.count (omega (arith, line.within, much)) a.answers a.kept a.short
    (a.stage ∙ c.requires.reads.open_yet)

pub returns-clause-nears : goal.returns-clause-nears
returns-clause-nears c =
    let old = c.args.self.now in
    let new = c.answer.new.self in
    let a = c.answer.ensures in
    let line = rw c.kept.ensures at c.line_length-count.ensures in
    let much : length (take c.args.place (kept old)) ≡ c.args.place = length-take-le c.args.place (kept old) (omega (arith, c.requires.feed.within)) in
    less-ahead old new c.args.place c.line_length-count.result c.answer.result c.requires.feed.within (omega (arith, line.within, much)) a.answers a.kept a.short a.taken
