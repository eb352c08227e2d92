use Rattle.std.proofs.Common.{sym, ◌∙◌, arith}
use Rattle.fronts.proofs.Keeping.{mark}
use Rattle.fronts.proofs.fronts.Fronts.mark_as.Goals as goal

pub load-requires : goal.load-requires
load-requires g c = (c.token.invariant.0 ∙ sym c.args.self.now.is, omega (arith, c.args.self.now.two_words), mark g.O.Origin.start c.args.self.now.table.shared.table_id.slots c.token.inside.seat.id c.token.inside.seat.me (rw c.token.view_is c.requires.right))
