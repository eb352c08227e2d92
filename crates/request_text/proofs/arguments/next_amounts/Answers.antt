use Rattle.std.proofs.Common.{rules}
use Rattle.request_text.proofs.Tails.{if_none}
use Rattle.request_text.proofs.arguments.next_amounts.Goals as goal

pub returns-in_err-d : goal.returns-in_err-d
returns-in_err-d c =
    if_none c.from_residual-in_err-d.result _ _ c.from_residual-in_err-d.ensures
    (λ cargo more spells. c.in_err-d.ensures cargo.d more cargo.deuterium (search rules))
