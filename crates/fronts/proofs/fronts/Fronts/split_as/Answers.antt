use Rattle.std.proofs.Common.{◌≢◌, sym, ◌∙◌, subst, arith}
use Rattle.fronts.specs.declared.view.View.{View}
use Rattle.fronts.proofs.Keeping.{hear}
use Rattle.fronts.proofs.TokenSteps.{nothing_to_forget}
use Rattle.fronts.proofs.Parting.{split}
use Rattle.fronts.proofs.fronts.Fronts.split_as.Goals as goal

pub load-requires : goal.load-requires
load-requires g c = (c.token.invariant.0 ∙ sym c.args.self.now.is, omega (arith, c.args.self.now.two_words), hear g.O.Origin.start c.args.self.now.table.shared.table_id.slots c.token.inside.seat.id c.token.inside.seat.me)

pub split_seat-seat-requires : goal.split_seat-seat-requires
split_seat-seat-requires g c =
    let h = c.load.ensures in
    let same = h.2.view ∙ nothing_to_forget g.O.Origin.start c.token.inside.seat.me.0 c.token.invariant.2 in
    (h.0 ∙ c.token.invariant.0 ∙ sym c.args.self.now.is, omega (arith, c.args.self.now.two_words), split g.O.Origin.start c.load.new.seat.id c.load.new.seat.me.0 (subst (λ (v : View). v.next ≢ 0) (sym same) (rw c.token.view_is c.requires.may)))
