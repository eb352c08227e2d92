use Rattle.happenings.proofs.Copying.{if_ok}
use Rattle.laziness.specs.Stamps.{Stamps}
use Rattle.lazy.specs.Planning.{CanAnswer}
use Rattle.lazy.specs.Plans.{IsPlan}
use Rattle.lazy.specs.declared.planning.Plan.{Plan}
use Rattle.tick_model.specs.Game.{game}
use Rattle.tick_model.specs.Universe.{Setting}
use Rattle.lazy.proofs.Copied.{can-answer, plan-alike}
use Rattle.lazy.proofs.planning.prepare.Goals as goal

pub work_out-requires-clause-can : goal.work_out-requires-clause-can
work_out-requires-clause-can c =
    let known = c.requires.can in
    (known.0, known.1, can-answer c.args.rules.now c.args.cells.now c.in_ok-copies.copies c.args.moment c.in_ok-copies.ensures.equal c.args.places.now c.args.player c.args.req.now known.0 known.1 known.2)

pub returns : goal.returns
returns c =
    let kept = c.args.rules.now in
    let held = c.args.cells.now in
    let copies = c.in_ok-copies.copies in
    let places = c.args.places.now in
    let player = c.args.player in
    let req = c.args.req.now in
    let moment = c.args.moment in
    let equal = c.in_ok-copies.ensures.equal in
    if_ok c.work_out.result
    (λ plan. (setting : Setting) (f : Stamps (game setting)) → CanAnswer setting kept places copies player req moment f → IsPlan setting copies player req moment f plan)
    (λ plan. (setting : Setting) (f : Stamps (game setting)) → CanAnswer setting kept places held player req moment f → IsPlan setting held player req moment f plan)
    (λ plan is setting f can.
    plan-alike kept held copies moment equal places player req setting f plan (is setting f (can-answer kept held copies moment equal places player req setting f can)))
    c.work_out.ensures
