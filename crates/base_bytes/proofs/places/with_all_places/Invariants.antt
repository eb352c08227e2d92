use Rattle.std.proofs.Common.{◌≡◌, All}
use Rattle.std.specs.List.{AllZip}
use Rattle.account_cell.specs.declared.account.Account.{Account}
use Rattle.base_bytes.specs.Sound.{places_owned}
use Rattle.base_bytes.specs.Told.{AreAlike}
use Rattle.base_bytes.proofs.places.with_all_places.Given as goal

abbrev pub invariant-accounts : goal.invariant-accounts
invariant-accounts l = record {
  alike : AllZip AreAlike l.yielded l.all.items;
  places : All (λ (account : Account). account.planets.items ≡ places_owned account.player l.planets) l.all.items;
}
