use Rattle.happenings.proofs.Copying.{if_ok}
use Rattle.lazy.specs.Advancing.{AdvancesIn}
use Rattle.lazy.specs.Planning.{HoldsSame}
use Rattle.lazy.proofs.Copied.{advances-alike, can-advance, same-alike}
use Rattle.lazy.proofs.advancing.advance.Goals as goal

pub bring-requires-clause-can : goal.bring-requires-clause-can
bring-requires-clause-can c =
    let known = c.requires.can in
    (known.0, known.1, can-advance c.args.rules.now c.args.cells.now c.in_ok-copies.copies c.args.moment c.in_ok-copies.ensures.equal known.0 known.1 known.2)

pub returns-clause-advances : goal.returns-clause-advances
returns-clause-advances c =
    let copies = c.in_ok-copies.copies in
    if_ok c.bring.result (AdvancesIn c.args.rules.now copies c.args.moment) (AdvancesIn c.args.rules.now c.args.cells.now c.args.moment)
    (advances-alike c.args.rules.now c.args.cells.now copies c.args.moment c.in_ok-copies.ensures.equal) c.bring.ensures.advances

pub returns-clause-same : goal.returns-clause-same
returns-clause-same c =
    let copies = c.in_ok-copies.copies in
    if_ok c.bring.result (HoldsSame copies) (HoldsSame c.args.cells.now)
    (same-alike c.args.rules.now c.args.cells.now copies c.args.moment c.in_ok-copies.ensures.equal) c.bring.ensures.same
