use Rattle.std.proofs.Common.{◌≡◌, arith, List, sym, subst, Option}
use Rattle.base_ids.specs.declared.cell_id.CellId.{CellId}
use Rattle.base_ids.specs.declared.coord.Coord.{Coord}
use Rattle.lazy.proofs.Answering.{granted-plan, refused-plan}
use Rattle.lazy.proofs.Counted.{are-counted}
use Rattle.lazy.specs.Taking.{AreTaken, PutsParts, seen_by}
use Rattle.orders.specs.Acting.{from_place}
use Rattle.lazy.proofs.planning.work_out.Goals as goal

pub act-requires-clause-counted : goal.act-requires-clause-counted
act-requires-clause-counted c =
    let known = c.requires.can in
    let can = known.2 in
    let cells = c.in_ok-cells.cells in
    let taken = subst (λ (list : List CellId). AreTaken list (seen_by cells c.args.player) c.args.player c.args.req.now c.in_ok-parts.parts) (sym can.directory) c.in_ok-parts.ensures in
    are-counted known.0 c.args.rules.now c.args.places.now c.args.cells c.args.player c.args.req.now c.args.moment known.1 can cells c.in_ok-cells.ensures.same
    (c.in_ok-cells.ensures.advances known.0 known.1 can.advance) c.in_ok-parts.parts taken

pub returns-then-acted-gt0 : goal.returns-then-acted-gt0
returns-then-acted-gt0 c setting f can =
    let cells = c.in_ok-cells.cells in
    let taken = subst (λ (list : List CellId). AreTaken list (seen_by cells c.args.player) c.args.player c.args.req.now c.in_ok-parts.parts) (sym can.directory) c.in_ok-parts.ensures in
    refused-plan setting c.args.rules.now c.args.places.now c.args.cells c.args.player c.args.req.now c.args.moment f can cells c.in_ok-cells.ensures.same
    c.in_ok-cells.ensures.named (c.in_ok-cells.ensures.advances setting f can.advance) c.in_ok-parts.parts c.act.new.parts taken c.in_ok-acted.acted c.in_ok-acted.ensures.ok
    (λ none. omega arith)

pub returns : goal.returns
returns c setting f can =
    let cells = c.in_ok-cells.cells in
    let acted = c.in_ok-acted.acted in
    let granted : acted.code ≡ 0 = omega arith in
    let taken = subst (λ (list : List CellId). AreTaken list (seen_by cells c.args.player) c.args.player c.args.req.now c.in_ok-parts.parts) (sym can.directory) c.in_ok-parts.ensures in
    let after = c.put_parts.new.cells in
    let puts = subst (λ (to : Option Coord). PutsParts (from_place c.args.player c.in_ok-parts.parts.fleets.caller c.args.req.now) to c.act.new.parts c.args.moment cells after) c.to_place-to.ensures
    (subst (λ (from : Option Coord). PutsParts from c.to_place-to.result c.act.new.parts c.args.moment cells after) c.from_place-from.ensures c.in_ok-put_parts.ensures.puts) in
    granted-plan setting c.args.rules.now c.args.places.now c.args.cells c.args.player c.args.req.now c.args.moment f can cells c.in_ok-cells.ensures.same
    c.in_ok-cells.ensures.named (c.in_ok-cells.ensures.advances setting f can.advance) c.in_ok-parts.parts c.act.new.parts taken acted c.in_ok-acted.ensures.ok granted
    after puts c.ordered-ordered.result c.ordered-ordered.ensures (c.in_ok-put_parts.ensures.named c.in_ok-cells.ensures.named)
