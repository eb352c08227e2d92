use Rattle.std.proofs.Common.{◌∷◌, []}
use Rattle.catalog.specs.Kinds.{kind_word}
use Rattle.request_text.proofs.Tails.{if_none, tail_same}
use Rattle.request_text.proofs.forms.build.Goals as goal

pub returns-in_err-building : goal.returns-in_err-building
returns-in_err-building c =
    if_none c.from_residual-in_err-building.result _ _ c.from_residual-in_err-building.ensures (λ at building spells. c.in_err-building.ensures building ([]) (tail_same _ _ _ _ (kind_word building.kind ∷ []) c.in_ok-at.ensures spells))
