use Rattle.std.proofs.Common.{◌∷◌, []}
use Rattle.std.specs.Fmt.{decimal}
use Rattle.catalog.specs.Kinds.{kind_word}
use Rattle.request_text.proofs.Tails.{if_none, tail_same}
use Rattle.request_text.proofs.forms.yard.Goals as goal

pub returns-in_err-unit : goal.returns-in_err-unit
returns-in_err-unit c =
    if_none c.from_residual-in_err-unit.result _ _ c.from_residual-in_err-unit.ensures (λ at unit count spells. c.in_err-unit.ensures unit (decimal count.n ∷ []) (tail_same _ _ _ _ (kind_word unit.kind ∷ decimal count.n ∷ []) c.in_ok-at.ensures spells))
