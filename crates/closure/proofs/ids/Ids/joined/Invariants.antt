use Rattle.std.specs.Prelude.{take}
use Rattle.closure.specs.Lists.{IsUnion}
use Rattle.closure.proofs.ids.Ids.joined.Given as goal

abbrev pub invariant-ids : goal.invariant-ids
invariant-ids l = IsUnion l.initial.self (take l.id-index l.ids) l.self
