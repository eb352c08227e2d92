use Rattle.std.proofs.Common.{◌++◌, ◌∷◌, take, get_or, cond, ap, sym, ◌∙◌, arith}
use Rattle.std.specs.List.{join_with_byte}
use Rattle.catalog.specs.Texts.{ship_part, ship_parts}
use Rattle.catalog.specs.declared.kind.Kind.TheVariants.{MetalMine}
use Rattle.catalog.specs.declared.ships.TheConstants.{SHIPS}
use Rattle.catalog.proofs.Parts.{join-more, no_parts, parts-absent, parts-present, some_parts}
use Rattle.reply_text.proofs.fleet_lines.ships_text.Goals as goal

pub ships-preserved-then-count-eq0 : goal.ships-preserved-then-count-eq0
ships-preserved-then-count-eq0 c =
    let same = parts-absent SHIPS c.args.counts.now c.ships.i (omega arith) (omega arith) c.if-count-eq0.true in
    rw same c.ships.invariant

pub ships-preserved : goal.ships-preserved
ships-preserved c =
    let i = c.ships.i in
    let counts = c.args.counts.now in
    let parts = ship_parts (take i SHIPS) (take i counts) in
    let part = ship_part (get_or SHIPS i MetalMine) (get_or counts i 0) in
    let more = parts-present SHIPS counts i MetalMine (omega arith) (omega arith) c.if-count-eq0.false in
    let whole = ap (join_with_byte 44) more ∙ join-more 44 parts part ∙ ap (λ b. join_with_byte 44 parts ++ cond b part (44 ∷ part)) (sym c.ships.invariant.first) in
    record {
      first = sym (ap no_parts more ∙ some_parts parts part);
      written = c.in_ok-push_ship.ensures ∙ ap (λ text. text ++ cond c.ships.is_first part (44 ∷ part)) c.ships.invariant.written ∙ sym whole;
    }
