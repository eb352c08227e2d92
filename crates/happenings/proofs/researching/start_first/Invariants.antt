-- The items that were passed could not start: what is left comes to the same.
use Rattle.std.proofs.Common.{◌≡◌, true, length}
use Rattle.account_cell.specs.Account.{KeepsHoldings, account_fields}
use Rattle.base_ids.specs.declared.cell_id.CellId.{CellId}
use Rattle.base_ids.specs.declared.coord.Coord.{Coord}
use Rattle.tick_model.specs.Universe.{Own}
use Rattle.happenings.specs.Researching.{AreOwns, came_first, pays_some}
use Rattle.happenings.proofs.researching.start_first.Given as goal

abbrev pub invariant-waiting : goal.invariant-waiting
invariant-waiting l = record {
  planets : l.planets ≡ l.initial.planets;
  fields : account_fields l.account ≡ account_fields l.initial.account;
  keeps : KeepsHoldings l.initial.account l.account;
  payers : (at : Coord) → pays_some l.account.research.items at ≡ true → pays_some l.initial.account.research.items at ≡ true;
  came : (own : CellId → Own) → AreOwns l.initial.account.research.items own l.initial.planets
      → came_first l.rules.speed l.second l.account own ≡ came_first l.rules.speed l.second l.initial.account own;
}

abbrev pub decreases-waiting : goal.decreases-waiting
decreases-waiting l = length l.account.research.items
