-- The cells named so far are held as they are after the battle.
use Rattle.std.proofs.Common.{take}
use Rattle.happenings.specs.Fighting.{fought_at}
use Rattle.happenings.specs.Held.{IsNamed, PicksFrom}
use Rattle.happenings.proofs.held.Held.fought.Given as goal

abbrev pub invariant-names : goal.invariant-names
invariant-names l = PicksFrom (fought_at l.rules l.battle l.self) (take l.name-index l.name-items) l.fought × IsNamed l.fought
