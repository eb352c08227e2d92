use Rattle.std.proofs.Common.{◌++◌, ◌∷◌, take, get_or, cond, ap, sym, ◌∙◌, refl, arith}
use Rattle.std.specs.List.{join_with_byte}
use Rattle.std.proofs.Output.{has_written_append, has_written_of_eq}
use Rattle.catalog.specs.Texts.{ship_part, ship_parts}
use Rattle.catalog.specs.declared.kind.Kind.TheVariants.{MetalMine}
use Rattle.catalog.specs.declared.ships.TheConstants.{SHIPS}
use Rattle.catalog.proofs.Parts.{join-more, no_parts, parts-absent, parts-present, some_parts}
use Rattle.catalog.proofs.ships.ShipsDisplay.fmt.Goals as goal

pub ships-preserved-then-count-eq0 :
    goal.ships-preserved-then-count-eq0
ships-preserved-then-count-eq0 g c =
    let same = parts-absent SHIPS c.args.self.now.n c.ships.i (omega arith) (omega arith) c.if-count-eq0.true in
    rw same c.ships.invariant

pub ships-preserved : goal.ships-preserved
ships-preserved g c =
    let took = g.W.Write.write_str_gives in
    let i = c.ships.i in
    let counts = c.args.self.now.n in
    let parts = ship_parts (take i SHIPS) (take i counts) in
    let part = ship_part (get_or SHIPS i MetalMine) (get_or counts i 0) in
    let more = parts-present SHIPS counts i MetalMine (omega arith) (omega arith) c.if-count-eq0.false in
    let whole = ap (λ b. join_with_byte 44 parts ++ cond b part (44 ∷ part)) c.ships.invariant.0 ∙ sym (join-more 44 parts part) ∙ ap (join_with_byte 44) (sym more) in (
      sym (ap no_parts more ∙ some_parts parts part),
      λ plain.
          let before = c.ships.invariant.1 plain in
          has_written_of_eq took c.args.f.now _ _ c.write_ship.new.f whole
          (has_written_append took c.args.f.now (join_with_byte 44 parts) c.ships.f _ c.write_ship.new.f before (c.in_ok-write_ship.ensures before.plain refl)),
    )
