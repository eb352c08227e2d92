use Rattle.std.proofs.Common.{◌≡◌, ◌++◌, take}
use Rattle.std.specs.List.{flat_map}
use Rattle.records.specs.Entries.{u32}
use Rattle.base_bytes.proofs.numbers.put_counts.Given as goal

abbrev pub invariant-counts : goal.invariant-counts
invariant-counts l = l.out ≡ l.fn.out ++ flat_map u32 (take l.count-index l.counts)
