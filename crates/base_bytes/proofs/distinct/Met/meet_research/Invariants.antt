use Rattle.std.proofs.Common.{take, true}
use Rattle.account_cell.specs.Account.{research_of}
use Rattle.base_bytes.specs.Counting.{Meets}
use Rattle.base_bytes.proofs.distinct.Met.meet_research.Given as goal

abbrev pub invariant-items : goal.invariant-items
invariant-items l = Meets (take l.item-index (research_of l.account)) l.fn.self l.self true
