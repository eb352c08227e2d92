use Rattle.std.proofs.Common.{◌≡◌, ◌++◌, drop, map}
use Rattle.base_ids.specs.declared.player.Player.{Player}
use Rattle.account_cell.specs.Account.{research_item}
use Rattle.tick_model.specs.Lines.{waiting_lines}
use Rattle.tick_model.specs.Universe.{Researches}
use Rattle.orders.proofs.queues.push_waiting_researches.Given as goal

abbrev pub invariant-items : goal.invariant-items
invariant-items l =
    (player : Player) → l.body ++ waiting_lines Researches (map (research_item player) (drop l.item-index l.items)) ≡ l.initial.body ++ waiting_lines Researches (map (research_item player) l.items)
