use Rattle.std.proofs.Common.{length, ap, ◌∙◌}
use Rattle.fronts.specs.declared.view.View.{View}
use Rattle.fronts.specs.History.{entries_of}
use Rattle.fronts.specs.Pair.{last_moment}
use Rattle.fronts.proofs.Pairs.{pen_is_whole}
use Rattle.fronts.proofs.demonstration.take_pen.Goals as goal

pub returns-clause-same : goal.returns-clause-same
returns-clause-same g c = record { number = ap (λ (v : View). v.number) c.take.ensures.view; next = c.take.ensures.next }

pub returns-clause-count : goal.returns-clause-count
returns-clause-count g c =
    let all = pen_is_whole g.O.Origin.start c.args.pass.now c.args.journal.note c.take.new.pass c.take.ensures.follows c.args.journal.pen in
    c.args.journal.counted ∙ ap length all

pub returns-clause-last : goal.returns-clause-last
returns-clause-last g c =
    let all = pen_is_whole g.O.Origin.start c.args.pass.now c.args.journal.note c.take.new.pass c.take.ensures.follows c.args.journal.pen in
    c.args.journal.last_is ∙ ap (λ l. last_moment 0 (entries_of l)) all
