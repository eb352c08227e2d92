use Rattle.std.proofs.Common.{◌≤◌, ◌<◌, refl, arith}
use Rattle.happenings.specs.Sights.{names_held}
use Rattle.lazy.proofs.Coursing.{AgreeThen, can-happen, course-advances, course-behind, course-falls, course-goes-on, course-runs, starts-alike}
use Rattle.lazy.proofs.Waiting.{happens_same, runs_no_more, waiting_in}
use Rattle.lazy.proofs.advancing.bring.Goals as goal

pub events-init : goal.events-init
events-init c = starts-alike c.args.rules.now c.args.cells c.args.cells c.args.moment (λ cell. refl) c.requires.named

pub apply-requires-clause-can : goal.apply-requires-clause-can
apply-requires-clause-can c =
    let known = c.requires.can in
    can-happen AgreeThen c.args.rules.now c.args.cells c.events.cells c.args.moment c.events.invariant c.in-Some.what c.in-Some.ensures.shown
    known.0 known.1 known.2 c.requires.in_time

pub events-smaller : goal.events-smaller
events-smaller c =
    let known = c.requires.can in
    let held = c.args.cells in
    let old = c.events.cells in
    let what = c.in-Some.what in
    let can = can-happen AgreeThen c.args.rules.now held old c.args.moment c.events.invariant what c.in-Some.ensures.shown known.0 known.1 known.2 c.requires.in_time in
    let after = c.apply.new.cells in
    let new = c.run_yards.new.cells in
    let same = happens_same c.args.rules.now what old after can c.in_ok-apply.ensures.happens in
    let fewer : waiting_in after (names_held held) < waiting_in old (names_held held) =
    course-falls AgreeThen c.args.rules.now held old c.args.moment c.events.invariant what c.in-Some.ensures.shown known.0 known.1 known.2 after c.in_ok-apply.ensures.acts same in
    let no_more : waiting_in new (names_held held) ≤ waiting_in after (names_held held) =
    runs_no_more c.args.rules.now c.args.moment after new c.in_ok-run_yards.ensures.runs (names_held held) in
    omega (arith, fewer, no_more)

pub events-preserved : goal.events-preserved
events-preserved c =
    let known = c.requires.can in
    let held = c.args.cells in
    let old = c.events.cells in
    let what = c.in-Some.what in
    let after = c.apply.new.cells in
    let new = c.run_yards.new.cells in
    let can = can-happen AgreeThen c.args.rules.now held old c.args.moment c.events.invariant what c.in-Some.ensures.shown known.0 known.1 known.2 c.requires.in_time in
    let course = course-goes-on AgreeThen c.args.rules.now held old c.args.moment c.events.invariant what c.in-Some.ensures.shown after c.in_ok-apply.ensures.acts c.in_ok-apply.ensures.named
    (happens_same c.args.rules.now what old after can c.in_ok-apply.ensures.happens) in
    course-runs c.args.rules.now held after c.args.moment course new c.in_ok-run_yards.ensures.runs c.in_ok-run_yards.ensures.named

pub gain-requires : goal.gain-requires
gain-requires c =
    let known = c.requires.can in
    course-behind AgreeThen c.args.rules.now c.args.cells c.events.cells c.args.moment c.events.invariant known.0 known.1 known.2

pub returns-clause-advances : goal.returns-clause-advances
returns-clause-advances c =
    course-advances c.args.rules.now c.args.cells c.events.cells c.args.moment c.events.invariant c.in_default.ensures.shown c.gain.new.self c.gain.ensures.gains c.gain.ensures.shows
