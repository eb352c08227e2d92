use Rattle.std.proofs.Common.{◌≡◌, ◌++◌, take}
use Rattle.std.specs.List.{flat_map}
use Rattle.base_bytes.specs.Spelling.{batch_bytes}
use Rattle.base_bytes.proofs.writing.put_batches.Given as goal

abbrev pub invariant-batches : goal.invariant-batches
invariant-batches l = l.out ≡ l.fn.out ++ flat_map batch_bytes (take l.batch-index l.batches)
