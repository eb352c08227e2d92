use Rattle.std.proofs.Common.{take}
use Rattle.happenings.specs.Researching.{ArePlaced, PayersGain}
use Rattle.happenings.proofs.researching.gain_payers.Given as goal

abbrev pub invariant-items : goal.invariant-items
invariant-items l =
    record { gains : PayersGain l.rules l.second (take l.item-index l.items) l.initial.planets l.planets; placed : ArePlaced l.initial.planets → ArePlaced l.planets }
