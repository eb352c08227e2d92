use Rattle.std.proofs.Common.{◌≡◌, ◌+◌, ◌≤◌, ◌++◌, length, map, vec_capacity}
use Rattle.founding.specs.Filing.{account_facts, account_sketched}
use Rattle.founding.proofs.filing.list_accounts.Given as goal

abbrev pub invariant-players : goal.invariant-players
invariant-players l = record {
  listed : map account_facts l.list.items ++ map account_sketched l.player-iterator ≡ map account_sketched l.fn.players.entries;
  room : length l.list.items + length l.player-iterator ≤ vec_capacity l.list;
}
