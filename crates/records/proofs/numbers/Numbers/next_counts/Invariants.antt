use Rattle.std.proofs.Common.{◌≡◌, ℕ, List, ◌++◌, length, take, drop}
use Rattle.std.specs.List.{flat_map}
use Rattle.records.specs.Entries.{u32}
use Rattle.records.specs.Ranges.{CountsFit}
use Rattle.records.proofs.numbers.Numbers.next_counts.Given as goal

abbrev pub invariant-counts : goal.invariant-counts
invariant-counts l = (counts more : List ℕ) → CountsFit counts (length l.into) → l.initial.self.rest.now ≡ flat_map u32 counts ++ more
    → (take l.count-index l.into ≡ take l.count-index counts) × (l.self.rest.now ≡ flat_map u32 (drop l.count-index counts) ++ more)
