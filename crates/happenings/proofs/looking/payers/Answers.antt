use Rattle.happenings.proofs.Payers.{payers_all}
use Rattle.happenings.proofs.looking.payers.Goals as goal

pub returns : goal.returns
returns c =
    payers_all c.args.moment c.args.items.now c.in-Some.waiting.now c.in-Some.first.now c.items.ids c.items.item-index c.in-Some.ensures.cases.0 c.if-first-moment.false
    c.items-test.false c.items.invariant
