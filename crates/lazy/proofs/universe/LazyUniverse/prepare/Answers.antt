use Rattle.std.proofs.Common.{refl}
use Rattle.tick_model.specs.Keeping.{lazily_at}
use Rattle.lazy.proofs.Preparing.{can-answer-at, prepared-at}
use Rattle.lazy.proofs.universe.LazyUniverse.prepare.Goals as goal

pub work_out-requires-clause-can : goal.work_out-requires-clause-can
work_out-requires-clause-can c =
    let lazy = c.args.self.now in
    let kept = c.requires.keeps in (
      kept.0.setting,
      lazily_at kept.0 kept.1,
      can-answer-at kept.0 kept.1 lazy c.args.player c.args.req.now c.args.reading c.max-moment.result c.in_ok-cells.cells c.max-moment.ensures c.in_ok-cells.ensures kept.2,
    )

pub returns : goal.returns
returns c =
    let lazy = c.args.self.now in
    let moment = c.max-moment.result in
    let cells = c.in_ok-cells.cells in
    prepared-at lazy c.args.player c.args.req.now c.args.reading moment cells _ c.requires.keeps c.max-moment.ensures c.in_ok-cells.ensures refl
    (λ base history keeps.
    c.finish-cells.ensures base.setting (lazily_at base history) cells c.args.player c.args.req.now moment
    (c.in_ok-plan.ensures base.setting (lazily_at base history)
    (can-answer-at base history lazy c.args.player c.args.req.now c.args.reading moment cells c.max-moment.ensures c.in_ok-cells.ensures keeps)))
