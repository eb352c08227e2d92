use Rattle.std.specs.Prelude.{take}
use Rattle.closure.specs.Lists.{has}
use Rattle.closure.specs.Naming.{AddsListed}
use Rattle.closure.proofs.asking.add_all.Given as goal

abbrev pub invariant-some : goal.invariant-some
invariant-some l = AddsListed l.places (has (take l.id-index l.some)) l.initial.ids l.ids
