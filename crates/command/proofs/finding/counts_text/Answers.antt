use Rattle.std.proofs.Common.{◌≡◌, List, ℕ, decimal, subst}
use Rattle.std.specs.Prelude.{IfOk, string_bytes}
use Rattle.command.proofs.Wordings.{printed_counts}
use Rattle.command.proofs.finding.counts_text.Goals as goal

pub returns : goal.returns
returns c =
    subst (λ (bytes : List ℕ). IfOk c.format.result (λ text. string_bytes text ≡ bytes)) (printed_counts (decimal c.args.players) (decimal c.args.planets)) c.format.ensures.ok
