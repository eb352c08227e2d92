use Rattle.std.proofs.Common.{arith}
use Rattle.std.proofs.lemmas.Bool.{false≢true}
use Rattle.battle.proofs.UnitCounts.{not_ordered, ordered_more}
use Rattle.battle.proofs.ready.is_in_order.Goals as goal

pub returns-then-parts-place : goal.returns-then-parts-place
returns-then-parts-place c =
    (λ never. absurd (false≢true never), λ ordered. absurd (not_ordered c.args.parts.now c.places.place _ (omega arith) (omega arith) c.if-parts-place.true ordered))

pub places-preserved : goal.places-preserved
places-preserved c = ordered_more c.args.parts.now c.places.place _ (omega arith) (omega arith) c.if-parts-place.false c.places.invariant
