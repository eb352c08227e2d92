use Rattle.std.proofs.Common.{sym, ◌∙◌, arith}
use Rattle.fronts.proofs.Keeping.{read}
use Rattle.fronts.proofs.fronts.Fronts.read_as.Goals as goal

pub load-requires : goal.load-requires
load-requires g c = (c.token.invariant.0 ∙ sym c.args.self.now.is, omega (arith, c.args.self.now.two_words), read g.O.Origin.start c.args.self.now.table.shared.table_id.slots c.token.inside.seat.id c.token.inside.seat.me)
