use Rattle.std.proofs.Common.{◌+◌, arith, refl}
use Rattle.lazy.proofs.Coursing.{AreEqual, course-goes-on, starts-equal}
use Rattle.lazy.proofs.Waiting.{happens_same}
use Rattle.ticking.proofs.Elapsing.{all-behind, event-falls, event-happens, second-passed}
use Rattle.ticking.proofs.passing.pass_second.Goals as goal

pub gained-requires-clause-named : goal.gained-requires-clause-named
gained-requires-clause-named c = c.requires.all.2.named

pub gained-requires-clause-behind : goal.gained-requires-clause-behind
gained-requires-clause-behind c =
    let known = c.requires.all in
    all-behind known.0 known.1 c.args.rules.now c.args.second c.args.cells.now known.2

pub events-init : goal.events-init
events-init c = starts-equal c.args.rules.now c.in_ok-later.later c.in_ok-later.later (c.args.second + 1) (λ cell. refl) c.in_ok-later.ensures.named

pub apply-requires-clause-can : goal.apply-requires-clause-can
apply-requires-clause-can c =
    let known = c.requires.all in
    event-happens known.0 known.1 c.args.rules.now c.args.second c.args.cells.now known.2 c.in_ok-later.later c.in_ok-later.ensures.gains c.in_ok-later.ensures.shows
    c.events.later c.in-Some.what c.events.invariant c.in-Some.ensures.shown (omega arith)

pub events-smaller : goal.events-smaller
events-smaller c =
    let known = c.requires.all in
    let can = event-happens known.0 known.1 c.args.rules.now c.args.second c.args.cells.now known.2 c.in_ok-later.later c.in_ok-later.ensures.gains c.in_ok-later.ensures.shows
    c.events.later c.in-Some.what c.events.invariant c.in-Some.ensures.shown (omega arith) in
    event-falls known.0 known.1 c.args.rules.now c.args.second c.args.cells.now known.2 c.in_ok-later.later c.in_ok-later.ensures.gains c.in_ok-later.ensures.shows
    c.events.later c.in-Some.what c.events.invariant c.in-Some.ensures.shown c.apply.new.cells c.in_ok-apply.ensures.acts
    (happens_same c.args.rules.now c.in-Some.what c.events.later c.apply.new.cells can c.in_ok-apply.ensures.happens)

pub events-preserved : goal.events-preserved
events-preserved c =
    let known = c.requires.all in
    let can = event-happens known.0 known.1 c.args.rules.now c.args.second c.args.cells.now known.2 c.in_ok-later.later c.in_ok-later.ensures.gains c.in_ok-later.ensures.shows
    c.events.later c.in-Some.what c.events.invariant c.in-Some.ensures.shown (omega arith) in
    course-goes-on AreEqual c.args.rules.now c.in_ok-later.later c.events.later (c.args.second + 1) c.events.invariant c.in-Some.what c.in-Some.ensures.shown c.apply.new.cells
    c.in_ok-apply.ensures.acts c.in_ok-apply.ensures.named (happens_same c.args.rules.now c.in-Some.what c.events.later c.apply.new.cells can c.in_ok-apply.ensures.happens)

pub returns : goal.returns
returns c base history are =
    second-passed base history c.args.rules.now c.args.second c.args.cells.now are c.in_ok-later.later c.in_ok-later.ensures.gains c.in_ok-later.ensures.shows
    c.events.later c.events.invariant c.in_default.ensures.shown
