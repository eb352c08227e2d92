-- The kinds passed so far have been written.
use Rattle.std.proofs.Common.{◌≡◌, string_bytes, take}
use Rattle.std.specs.List.{join_with_byte}
use Rattle.catalog.specs.Texts.{ship_parts}
use Rattle.catalog.specs.declared.ships.TheConstants.{SHIPS}
use Rattle.catalog.proofs.Parts.{no_parts}
use Rattle.reply_text.proofs.fleet_lines.ships_text.Given as goal

abbrev pub invariant-ships : goal.invariant-ships
invariant-ships l =
    let parts = ship_parts (take l.i SHIPS) (take l.i l.counts) in
    record { first : l.is_first ≡ no_parts parts; written : string_bytes l.text ≡ join_with_byte 44 parts }
