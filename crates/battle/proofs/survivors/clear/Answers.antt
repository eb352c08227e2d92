use Rattle.std.proofs.Common.{[], ◌∙◌, refl, arith}
use Rattle.battle.proofs.Changes.{placed_more}
use Rattle.battle.proofs.Counts.{left_of}
use Rattle.battle.proofs.survivors.clear.Goals as goal

pub parts-preserved : goal.parts-preserved
parts-preserved c = placed_more (left_of []) c.parts.side c.parts.part-index _ _ (omega arith) refl ∙ c.parts.invariant
