use Rattle.std.proofs.Common.{◌≡◌, Option, None, ap, ◌∙◌, sym, subst}
use Rattle.std.specs.Prelude.{MatchOption}
use Rattle.base_ids.specs.declared.cell_id.CellId.TheVariants.{Planet}
use Rattle.base_ids.specs.declared.coord.Coord.{Coord}
use Rattle.closure.specs.Directory.{cells_of}
use Rattle.happenings.specs.Queues.{seen_held}
use Rattle.lazy.specs.Taking.{IsTaken}
use Rattle.lazy.proofs.Taken.{account_taken, none_taken, seen_taken, unseen_taken}
use Rattle.orders.specs.Acting.{from_place, to_place}
use Rattle.lazy.proofs.taking.take_parts.Goals as goal

pub returns-in_default : goal.returns-in_default
returns-in_default c =
    let parts = c.no_parts.result in
    let is = c.no_parts.ensures in
    let cells = cells_of c.args.places.now in
    unseen_taken c.args.cells.now cells c.args.player c.args.req.now parts c.in_default.ensures
    (none_taken cells c.args.player c.args.req.now parts is.caller is.from is.to is.to_owner is.seen)

pub returns : goal.returns
returns c =
    let held = c.args.cells.now in
    let player = c.args.player in
    let req = c.args.req.now in
    let flown = c.in_ok-copy-2.ensures in
    let from = c.from_place.ensures ∙ ap (λ fleets. from_place player fleets req) (sym flown) in
    let to = c.to_place.ensures ∙ ap (λ fleets. to_place player fleets req) (sym flown) in
    seen_taken held (cells_of c.args.places.now) player req _ c.in-Some.cell.now c.in-Some.ensures (record {
      caller = account_taken held player c.in-Some.cell.now c.in_ok-copy.field-0 c.in_ok-copy-2.field-0 c.requires c.in-Some.ensures c.in_ok-copy.ensures flown;
      from = subst (λ (o : Option Coord). MatchOption o (c.in_ok-from.from.planet ≡ None) (λ at. IsTaken (seen_held held (Planet at)) at c.in_ok-from.from.planet c.in_ok-from.from.fleets)) from c.in_ok-from.ensures;
      to = subst (λ (o : Option Coord). MatchOption o (c.in_ok-to.to.planet ≡ None) (λ at. IsTaken (seen_held held (Planet at)) at c.in_ok-to.to.planet c.in_ok-to.to.fleets)) to c.in_ok-to.ensures;
      to_owner = c.in_ok-owner.ensures;
      seen = c.in_ok-take_system.ensures;
    })
