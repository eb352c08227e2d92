use Rattle.std.proofs.Common.{◌≡◌, ℕ, length, subst, ◌∙◌}
use Rattle.std.specs.Prelude.{IfOk, string_bytes}
use Rattle.command.specs.Found.{counts_line}
use Rattle.command.proofs.finding.founded_text.Goals as goal

pub returns : goal.returns
returns c =
    let base = c.args.base.now in
    let accounts = base.accounts.items in
    let players : c.len.result ≡ length accounts = c.len.ensures ∙ base.accounts.ok.0 in
    let planets : c.len-2.result ≡ length base.planets.items = c.len-2.ensures ∙ base.planets.ok.0 in
    subst (λ (count : ℕ). IfOk c.counts_text.result (λ text. string_bytes text ≡ counts_line (length accounts) count)) planets
    (subst (λ (count : ℕ). IfOk c.counts_text.result (λ text. string_bytes text ≡ counts_line count c.len-2.result)) players c.counts_text.ensures)
