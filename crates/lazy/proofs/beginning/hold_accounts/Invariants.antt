-- The accounts so far are held.
use Rattle.std.proofs.Common.{[], map, take}
use Rattle.base_ids.specs.declared.cell_id.CellId.TheVariants.{Account}
use Rattle.lazy.specs.Beginning.{HoldsWith}
use Rattle.lazy.proofs.beginning.hold_accounts.Given as goal

abbrev pub invariant-accounts : goal.invariant-accounts
invariant-accounts l = HoldsWith l.base [] (map (λ account. Account account.player) (take l.account-index l.base.accounts.items)) l.cells
