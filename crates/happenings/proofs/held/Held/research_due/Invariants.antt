-- Of the accounts passed so far none owes an event that comes before the first one.
use Rattle.std.proofs.Common.{◌≡◌, ◌++◌, List}
use Rattle.base_ids.specs.declared.player.Player.{Player}
use Rattle.happenings.specs.Due.{IsFirstOwed, key_at}
use Rattle.happenings.specs.declared.held.AccountCell.{AccountCell}
use Rattle.happenings.proofs.Owing.{account_owes, account_there}
use Rattle.happenings.proofs.held.Held.research_due.Given as goal

abbrev pub invariant-accounts : goal.invariant-accounts
invariant-accounts l =
    (passed : List (Player × AccountCell)) × (passed ++ l.player-iterator ≡ l.self.accounts.entries) × IsFirstOwed key_at (account_owes l.moment) (account_there l.self) passed l.first
