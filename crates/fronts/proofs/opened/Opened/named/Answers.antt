use Rattle.std.proofs.Common.{sym, ap, ◌∙◌, subst}
use Rattle.fronts.specs.Tokens.{IsPass, IsToken}
use Rattle.fronts.proofs.Opening.{first_is_pass, first_is_token}
use Rattle.fronts.proofs.opened.Opened.named.Goals as goal

pub invariant_of-token : goal.invariant_of-token
invariant_of-token g c =
    let i = c.self.invariant in
    (i.0 ∙ c.self.view_is ∙ c.requires, ap (λ m. m.1) i.1, subst (λ m. IsToken g.O.Origin.start m.0) (sym i.1) (first_is_token g.O.Origin.start i.4))

pub invariant_of-result : goal.invariant_of-result
invariant_of-result g c =
    let i = c.self.invariant in
    subst (λ m. IsPass g.O.Origin.start m.0) (sym i.1) (first_is_pass g.O.Origin.start i.4)
