use Rattle.std.proofs.Common.{◌≡◌, ◌++◌, All, List, ℕ, length, vec_len, take, drop}
use Rattle.std.specs.List.{AllZip, flat_map}
use Rattle.base_bytes.proofs.lists.next_list.Given as goal

abbrev pub invariant-items : goal.invariant-items
invariant-items g l = record {
  list : (items : List _) (more : List ℕ) → length items ≡ l.count → All g.T.Listed.Fits items
      → l.initial.numbers.rest.now ≡ flat_map g.T.Listed.bytes items ++ more
      → AllZip g.T.Listed.Alike (take l.counter items) l.list.items × (l.numbers.rest.now ≡ flat_map g.T.Listed.bytes (drop l.counter items) ++ more);
  size : vec_len l.list ≡ l.counter;
}
