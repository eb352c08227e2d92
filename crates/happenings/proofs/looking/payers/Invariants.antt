-- The places so far are those of the items so far.
use Rattle.std.proofs.Common.{◌≡◌, take}
use Rattle.happenings.proofs.Payers.{payers_of}
use Rattle.happenings.proofs.looking.payers.Given as goal

abbrev pub invariant-items : goal.invariant-items
invariant-items l = l.ids ≡ payers_of (take l.item-index l.waiting)
