use Rattle.lazy.proofs.Samples.{goes_on}
use Rattle.ticking.proofs.Samples.{asked_last, can_ask}
use Rattle.ticking.proofs.tests.ask_both.Goals as goal

pub ask-requires-clause-can : goal.ask-requires-clause-can
ask-requires-clause-can g c = can_ask c.args.slow.now c.in_ok-call.reading c.requires.slow

pub returns-clause-slow : goal.returns-clause-slow
returns-clause-slow g c =
    asked_last c.args.slow.now c.ask.new.self c.in_ok-call.call.player c.in_ok-call.call.req c.in_ok-call.reading c.in_ok-ticked.ticked c.in_ok-ticked.ensures.ok c.requires.slow

pub returns-clause-lazy : goal.returns-clause-lazy
returns-clause-lazy g c =
    goes_on c.args.lazy.now c.ask-2.new.self c.in_ok-call.call.player c.in_ok-call.call.req c.in_ok-call.reading c.in_ok-told.told c.in_ok-told.ensures.ok c.requires.lazy
