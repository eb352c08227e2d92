use Rattle.std.proofs.Common.{◌∷◌}
use Rattle.base_ids.specs.Text.{coord_text}
use Rattle.request_text.proofs.Tails.{if_none, tail_same}
use Rattle.request_text.proofs.arguments.next_route.Goals as goal

pub returns-in_err-from : goal.returns-in_err-from
returns-in_err-from c = if_none c.from_residual.result _ _ c.from_residual.ensures (λ from to more spells. c.in_err-from.ensures from (coord_text to ∷ more) spells)

pub returns-in_err-to : goal.returns-in_err-to
returns-in_err-to c =
    if_none c.from_residual-in_err-to.result _ _ c.from_residual-in_err-to.ensures (λ from to more spells. c.in_err-to.ensures to more (tail_same _ _ _ _ (coord_text to ∷ more) c.in_ok-from.ensures spells))
