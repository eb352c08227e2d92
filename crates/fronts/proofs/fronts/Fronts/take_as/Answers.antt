use Rattle.std.proofs.Common.{sym, ◌∙◌, arith}
use Rattle.fronts.proofs.Keeping.{hear}
use Rattle.fronts.proofs.Uniting.{join}
use Rattle.fronts.proofs.fronts.Fronts.take_as.Goals as goal

pub join_seat-requires : goal.join_seat-requires
join_seat-requires g c = (c.token.invariant.0 ∙ sym c.args.self.now.is, c.other.invariant.0 ∙ sym c.args.self.now.is, c.other.invariant.1, omega (arith, c.args.self.now.two_words), join g.O.Origin.start c.token.inside.seat.id c.token.inside.seat.me.0 c.other.inside.seat.id c.other.inside.seat.me.0)

pub load-requires : goal.load-requires
load-requires g c = (c.join_seat.ensures.0 ∙ c.token.invariant.0 ∙ sym c.args.self.now.is, omega (arith, c.args.self.now.two_words), hear g.O.Origin.start c.args.self.now.table.shared.table_id.slots c.join_seat.new.seat.id c.join_seat.new.seat.me)
