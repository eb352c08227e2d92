-- The kinds passed so far have been written.
use Rattle.std.proofs.Common.{◌≡◌, take}
use Rattle.std.specs.Fmt.{HasWritten, IsPlainFormatter}
use Rattle.std.specs.List.{join_with_byte}
use Rattle.catalog.specs.Texts.{ship_parts}
use Rattle.catalog.specs.declared.ships.TheConstants.{SHIPS}
use Rattle.catalog.proofs.Parts.{no_parts}
use Rattle.catalog.proofs.ships.ShipsDisplay.fmt.Given as goal

abbrev pub invariant-ships : goal.invariant-ships
invariant-ships g l =
    let parts = ship_parts (take l.i SHIPS) (take l.i l.self.n) in
    (l.is_first ≡ no_parts parts) × (IsPlainFormatter l.initial.f → HasWritten g.W.Write.write_str_gives l.initial.f (join_with_byte 44 parts) l.f)
