-- So far the accounts went over, and then the planets.
use Rattle.std.proofs.Common.{◌≡◌, []}
use Rattle.std.specs.BTreeMap.{btree_map_len}
use Rattle.happenings.proofs.Together.{IsMoving}
use Rattle.happenings.proofs.held.Held.put_all.Given as goal

abbrev pub invariant-accounts : goal.invariant-accounts
invariant-accounts l = IsMoving l.fn.cells l.fn.self l.cells l.self

abbrev pub decreases-accounts : goal.decreases-accounts
decreases-accounts l = btree_map_len l.cells.accounts

abbrev pub invariant-planets : goal.invariant-planets
invariant-planets l = record { moving : IsMoving l.fn.cells l.fn.self l.cells l.self; accounts : l.cells.accounts.entries ≡ [] }

abbrev pub decreases-planets : goal.decreases-planets
decreases-planets l = btree_map_len l.cells.planets
