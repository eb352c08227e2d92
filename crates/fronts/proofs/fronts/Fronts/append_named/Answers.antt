use Rattle.std.proofs.Common.{sym, ◌∙◌, arith}
use Rattle.fronts.proofs.Keeping.{append}
use Rattle.fronts.proofs.TokenSteps.{token_appended}
use Rattle.fronts.proofs.fronts.Fronts.append_named.Goals as goal

pub fetch_add-requires : goal.fetch_add-requires
fetch_add-requires g c =
    let is = c.requires.is in
    (c.token.invariant.0 ∙ sym c.args.self.now.is, omega (arith, c.args.self.now.two_words), append g.O.Origin.start c.args.self.now.table.shared.table_id.slots c.token.inside.seat.id c.token.inside.seat.me g.E.Adding.entry (rw c.token.view_is c.requires.pen) (rw c.token.view_is c.requires.pass.1) (rw c.token.view_is c.requires.pass.0) (rw (c.token.view_is, is) c.requires.cells) (rw (c.token.view_is, is) c.requires.legal))

pub invariant_of-token : goal.invariant_of-token
invariant_of-token g c =
    let h = c.fetch_add.ensures in
    let is = c.requires.is in
    (h.0 ∙ c.token.invariant.0, h.2.slots ∙ c.token.invariant.1, token_appended g.O.Origin.start c.token.inside.seat.me.0 c.fetch_add.new.seat.me.0 g.E.Adding.entry h.2.view c.token.invariant.2 (rw c.token.view_is c.requires.pass.0) (rw (c.token.view_is, is) c.requires.legal))

pub returns-clause-history : goal.returns-clause-history
returns-clause-history g c =
    let h = c.fetch_add.ensures in
    let is = c.requires.is in
    (token_appended g.O.Origin.start c.token.inside.seat.me.0 c.fetch_add.new.seat.me.0 g.E.Adding.entry h.2.view c.token.invariant.2 (rw c.token.view_is c.requires.pass.0) (rw (c.token.view_is, is) c.requires.legal)).is_history
