use Rattle.std.proofs.Common.{◌≡◌, ◌++◌, take}
use Rattle.std.specs.List.{flat_map}
use Rattle.base_bytes.specs.Spelling.{research_bytes}
use Rattle.base_bytes.proofs.writing.put_researches.Given as goal

abbrev pub invariant-items : goal.invariant-items
invariant-items l = l.out ≡ l.fn.out ++ flat_map research_bytes (take l.item-index l.items)
