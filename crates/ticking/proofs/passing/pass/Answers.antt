use Rattle.std.proofs.Common.{◌≡◌, arith, subst}
use Rattle.ticking.proofs.Elapsing.{equal-world}
use Rattle.ticking.specs.Standing.{Pass}
use Rattle.ticking.proofs.passing.pass.Goals as goal

pub copy-requires : goal.copy-requires
copy-requires c = c.requires.all.2.named

pub seconds-init : goal.seconds-init
seconds-init c = equal-world c.args.rules.now c.args.second c.args.cells.now c.in_ok-passed.passed c.in_ok-passed.ensures.equal c.in_ok-passed.ensures.named

pub pass_second-requires-clause-all : goal.pass_second-requires-clause-all
pass_second-requires-clause-all c =
    let known = c.requires.all in (known.0, known.1, c.seconds.invariant known.0 known.1 known.2)

pub seconds-preserved : goal.seconds-preserved
seconds-preserved c base history are = c.in_ok-passed-2.ensures base history (c.seconds.invariant base history are)

pub returns : goal.returns
returns c =
    let end : c.seconds.now ≡ c.args.moment = omega arith in
    subst (λ now. Pass c.args.rules.now c.args.second c.args.cells.now now c.seconds.passed) end c.seconds.invariant
