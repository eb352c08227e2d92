use Rattle.std.proofs.Common.{◌+◌, sym, subst}
use Rattle.happenings.proofs.Brought.{AreAdded, added_all, added_due, added_none}
use Rattle.happenings.proofs.looking.add_landings.Goals.{then-fleet-moment+in_ok-add_cells, else-fleet-moment}
use Rattle.happenings.proofs.looking.add_landings.Goals as goal

pub fleets-preserved : goal.fleets-preserved
fleets-preserved c =
    let fleets = c.args.fleets.now in
    let i = c.fleets.fleet-index in
    let fleet = c.fleet-item.result in
    let first = c.args.ids.now in
    elim c.if-fleet-moment.branch [
      | then-fleet-moment+in_ok-add_cells w ↦
          subst (AreAdded c.args.moment fleets (i + 1) first) (sym w.ids-is)
          (added_due c.args.moment fleets i fleet first c.fleets.ids w.add_cells.new.ids c.fleets-test.true c.fleet-item.is w.if-fleet-moment.true c.fleets.invariant w.in_ok-add_cells.ensures)
      | else-fleet-moment w ↦
          subst (AreAdded c.args.moment fleets (i + 1) first) (sym w.ids-is)
          (added_none c.args.moment fleets i fleet first c.fleets.ids c.fleets-test.true c.fleet-item.is w.if-fleet-moment.false c.fleets.invariant)
    ]

pub returns : goal.returns
returns c = added_all c.args.moment c.args.fleets.now c.fleets.fleet-index c.args.ids.now c.fleets.ids c.fleets-test.false c.fleets.invariant
