use Rattle.std.proofs.Common.{◌≡◌, drop}
use Rattle.std.specs.VecDeque.{deque_capacity}
use Rattle.journal_store.proofs.batch.drop_front.Given as goal

abbrev pub invariant-entries : goal.invariant-entries
invariant-entries l = record {
  items : l.pending.items ≡ drop l.counter l.fn.pending.items;
  capacity : deque_capacity l.pending ≡ deque_capacity l.fn.pending;
}
