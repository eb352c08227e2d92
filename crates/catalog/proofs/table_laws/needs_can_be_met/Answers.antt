use Rattle.catalog.proofs.NeedOrder.{in_order}
use Rattle.catalog.proofs.table_laws.needs_can_be_met.Goals as goal

pub returns-clause-in_order : goal.returns-clause-in_order
returns-clause-in_order c = in_order
