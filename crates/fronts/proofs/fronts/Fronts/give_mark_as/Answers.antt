use Rattle.std.proofs.Common.{sym, ◌∙◌, arith}
use Rattle.fronts.proofs.Parting.{give_mark}
use Rattle.fronts.proofs.fronts.Fronts.give_mark_as.Goals as goal

pub split_seat-seat-requires : goal.split_seat-seat-requires
split_seat-seat-requires g c = (c.token.invariant.0 ∙ sym c.args.self.now.is, omega (arith, c.args.self.now.two_words), give_mark g.O.Origin.start c.token.inside.seat.id c.token.inside.seat.me.0 (rw c.token.view_is c.requires.some))
