use Rattle.std.proofs.Common.{refl}
use Rattle.ticking.proofs.Answered.{can-work, continues}
use Rattle.ticking.specs.Standing.{ticking_at}
use Rattle.ticking.proofs.universe.TickingUniverse.ask.Goals as goal

pub pass-requires-clause-all : goal.pass-requires-clause-all
pass-requires-clause-all c = let known = c.requires.can in (known.0, known.1, known.2.stands.cells_are)

pub prepare-requires-clause-can : goal.prepare-requires-clause-can
prepare-requires-clause-can c =
    let known = c.requires.can in
    let moment = c.max-moment.result in (
      known.0.setting,
      ticking_at known.0 known.1 moment,
      can-work known.0 known.1 c.args.self.now c.args.player c.args.req.now c.args.reading moment known.2 c.max-moment.ensures c.in_ok-cells.cells
          (c.in_ok-cells.ensures known.0 known.1 known.2.stands.cells_are),
    )

pub prepare-requires-clause-named : goal.prepare-requires-clause-named
prepare-requires-clause-named c =
    let known = c.requires.can in (c.in_ok-cells.ensures known.0 known.1 known.2.stands.cells_are).named

pub returns-clause-ok : goal.returns-clause-ok
returns-clause-ok c = λ base history in_time.
    let old = c.args.self.now in
    let player = c.args.player in
    let req = c.args.req.now in
    let moment = c.max-moment.result in
    let cells = c.in_ok-cells.cells in
    let are = c.in_ok-cells.ensures base history in_time.stands.cells_are in
    let can = can-work base history old player req c.args.reading moment in_time c.max-moment.ensures cells are in
    let f = ticking_at base history moment in
    continues base history old player req c.args.reading moment in_time c.max-moment.ensures cells are _ _ _
    (c.finish-cells.ensures base.setting f cells player req moment (c.in_ok-plan.ensures base.setting f can)) refl refl refl refl refl
