use Rattle.std.proofs.Common.{◌≡◌, ◌≤◌, ◌+◌, ◌*◌, ◌∷◌, length, take, vec_capacity}
use Rattle.std.specs.List.{flat_map}
use Rattle.records.specs.Entries.{entry_bytes}
use Rattle.journal_store.proofs.batch.fill.Given as goal

abbrev pub invariant-entries : goal.invariant-entries
invariant-entries l = record {
  items : l.room.items ≡ 0 ∷ l.count ∷ flat_map entry_bytes (take l.i l.pending.items);
  len : length l.room.items ≡ 2 + 256 * l.i;
  capacity : vec_capacity l.fn.room ≤ vec_capacity l.room;
}
