use Rattle.std.proofs.Common.{◌≡◌, ◌∙◌, [], ap, sym}
use Rattle.std.specs.Prelude.{if◌then◌else◌}
use Rattle.orders.specs.Acting.{planet_seen}
use Rattle.orders.specs.Sending.{fleets_there, in_group}
use Rattle.orders.proofs.joining.company_at.Goals as goal

pub returns-in-None : goal.returns-in-None
returns-in-None c =
    let apart = sym c.is_same.ensures ∙ c.if-is_same.false in
    let none : fleets_there c.args.errand.now c.args.to.now c.args.fleets.now ≡ [] =
    λ i. if apart i then c.args.fleets.now.from else (planet_seen (c.in-None.is i) c.args.fleets.now.to).fleets in
    c.nobody.ensures c.args.errand.now.to ∙ ap (in_group c.args.group.f c.args.errand.now.to) (sym none)
