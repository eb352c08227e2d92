use Rattle.std.proofs.Common.{sym}
use Rattle.happenings.proofs.Owing.{first_of_both}
use Rattle.happenings.proofs.held.Held.item_due.Goals as goal

pub returns : goal.returns
returns c = first_of_both c.args.self.now c.args.moment c.research_due.result c.planet_due.result c.sooner.result c.research_due.ensures c.planet_due.ensures (sym c.sooner.ensures)
