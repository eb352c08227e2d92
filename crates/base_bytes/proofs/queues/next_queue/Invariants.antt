use Rattle.std.proofs.Common.{◌≡◌, ◌++◌, All, List, ℕ, length, vec_len, take, drop}
use Rattle.std.specs.List.{flat_map}
use Rattle.base_bytes.proofs.queues.next_queue.Given as goal

abbrev pub invariant-items : goal.invariant-items
invariant-items g l = record {
  items : (items : List _) (more : List ℕ) → length items ≡ l.count → All g.T.Spelled.Fits items
      → l.initial.numbers.rest.now ≡ flat_map g.T.Spelled.bytes items ++ more
      → (l.queue.items ≡ take l.counter items) × (l.numbers.rest.now ≡ flat_map g.T.Spelled.bytes (drop l.counter items) ++ more);
  size : vec_len l.queue ≡ l.counter;
}
