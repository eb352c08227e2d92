use Rattle.std.proofs.Common.{◌∷◌, []}
use Rattle.catalog.specs.Kinds.{kind_word}
use Rattle.request_text.proofs.Tails.{if_none, tail_same}
use Rattle.request_text.proofs.forms.research.Goals as goal

pub returns-in_err-technology : goal.returns-in_err-technology
returns-in_err-technology c =
    if_none c.from_residual-in_err-technology.result _ _ c.from_residual-in_err-technology.ensures (λ at technology spells. c.in_err-technology.ensures technology ([]) (tail_same _ _ _ _ (kind_word technology.kind ∷ []) c.in_ok-at.ensures spells))
