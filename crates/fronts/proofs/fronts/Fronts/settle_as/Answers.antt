use Rattle.std.proofs.Common.{sym, ◌∙◌, arith}
use Rattle.fronts.proofs.Keeping.{settle}
use Rattle.fronts.proofs.fronts.Fronts.settle_as.Goals as goal

pub fetch_add-requires : goal.fetch_add-requires
fetch_add-requires g c =
    (c.token.invariant.0 ∙ sym c.args.self.now.is, omega (arith, c.args.self.now.two_words), settle g.O.Origin.start c.args.self.now.table.shared.table_id.slots c.token.inside.seat.id c.token.inside.seat.me c.args.more (rw c.token.view_is c.requires.rights.0) (rw c.token.view_is c.requires.rights.1) (rw c.token.view_is c.requires.within))
