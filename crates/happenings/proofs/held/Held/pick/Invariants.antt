-- The cells named so far are picked.
use Rattle.std.proofs.Common.{take}
use Rattle.happenings.specs.Held.{IsNamed, Picks}
use Rattle.happenings.proofs.held.Held.pick.Given as goal

abbrev pub invariant-names : goal.invariant-names
invariant-names l = Picks l.self (take l.name-index l.names) l.picked × IsNamed l.picked
