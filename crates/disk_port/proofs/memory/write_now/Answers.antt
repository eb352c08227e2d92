use Rattle.std.proofs.Common.{rules}
use Rattle.disk_port.proofs.memory.write_now.Goals as goal

pub returns-clause-noted : goal.returns-clause-noted
returns-clause-noted c = (c.in_ok-copy.copy, c.in_ok-copy.ensures.items, search rules)
