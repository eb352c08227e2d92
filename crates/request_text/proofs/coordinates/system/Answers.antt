use Rattle.std.proofs.Common.{arith}
use Rattle.request_text.proofs.Colons.{two_found}
use Rattle.request_text.proofs.Tails.{if_none}
use Rattle.request_text.proofs.coordinates.system.Goals as goal

pub returns-in_err-s : goal.returns-in_err-s
returns-in_err-s c =
    if_none c.from_residual-in_err-s.result _ _ c.from_residual-in_err-s.ensures (λ at is.
    let parts = two_found c.args.word.now c.in_ok-galaxy.galaxy.now c.in_ok-galaxy.number.now at.g at.s c.in_ok-galaxy.ensures.split is in
    c.in_err-s.ensures at.s at.system_from (omega (arith, at.system_to)) parts.1)
