use Rattle.std.proofs.Common.{sym}
use Rattle.happenings.proofs.Arriving.{first_of_all}
use Rattle.happenings.proofs.Owing.{finds_first}
use Rattle.happenings.proofs.held.Held.first_due.Goals as goal

pub returns-clause-due : goal.returns-clause-due
returns-clause-due c =
    first_of_all c.args.self.now c.args.moment c.item_due.result c.coming_due.result c.first_of_two.result c.item_due.ensures c.coming_due.ensures (sym c.first_of_two.ensures)

pub returns-clause-shown : goal.returns-clause-shown
returns-clause-shown c = finds_first c.args.self.now c.args.moment c.first_of_two.result (returns-clause-due c)
