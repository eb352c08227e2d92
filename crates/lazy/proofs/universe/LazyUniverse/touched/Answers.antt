use Rattle.std.proofs.Common.{subst}
use Rattle.std.specs.Prelude.{IfOk}
use Rattle.closure.specs.Answers.{IsAnswered}
use Rattle.happenings.specs.Held.{IsNamed, Picks}
use Rattle.happenings.specs.Sights.{sees_held}
use Rattle.lazy.specs.Touching.{AreTouched}
use Rattle.lazy.proofs.Least.{all-held, if_both, picked-touched}
use Rattle.lazy.proofs.universe.LazyUniverse.touched.Goals as goal

pub unreachable-requires : goal.unreachable-requires
unreachable-requires c =
    let lazy = c.args.self.now in
    let missing = subst (IsAnswered (sees_held lazy.cells) c.in_ok-wanted.wanted c.args.moment) c.in_default.is c.in_ok-ids.ensures in
    all-held c.requires.0 c.requires.1 lazy c.args.player c.args.req.now c.args.moment c.in_ok-wanted.wanted c.in_default.field-0 c.requires.2 c.in_ok-wanted.ensures missing

pub returns : goal.returns
returns c =
    let lazy = c.args.self.now in
    let wanted = c.in_ok-wanted.wanted in
    let least = subst (IsAnswered (sees_held lazy.cells) wanted c.args.moment) c.in-Closed.is c.in_ok-ids.ensures in
    if_both c.pick.result (Picks lazy.cells c.in-Closed.ids) IsNamed (AreTouched lazy c.args.player c.args.req.now c.args.moment)
    (λ picked. picked-touched lazy c.args.player c.args.req.now c.args.moment wanted c.in-Closed.ids picked c.in_ok-wanted.ensures least)
    (subst (λ names. IfOk c.pick.result (Picks lazy.cells names)) c.as_slice.ensures c.pick.ensures.picks) c.pick.ensures.named
