use Rattle.std.proofs.Common.{◌∷◌, []}
use Rattle.std.specs.Fmt.{decimal}
use Rattle.catalog.specs.Kinds.{kind_word}
use Rattle.request_text.proofs.Tails.{if_none, tail_same}
use Rattle.request_text.proofs.forms.set.Goals as goal

pub returns-in_err-work : goal.returns-in_err-work
returns-in_err-work c =
    if_none c.from_residual-in_err-work.result _ _ c.from_residual-in_err-work.ensures (λ at work tenths spells. c.in_err-work.ensures work (decimal tenths.n ∷ []) (tail_same _ _ _ _ (kind_word work.kind ∷ decimal tenths.n ∷ []) c.in_ok-at.ensures spells))
