use Rattle.lazy.proofs.Samples.{goes_on}
use Rattle.ticking.proofs.tests.ask_lazy.Goals as goal

pub returns : goal.returns
returns g c =
    goes_on c.args.lazy.now c.ask.new.self c.in_ok-call.call.player c.in_ok-call.call.req c.in_ok-call.reading c.in_ok-ask.field-0 c.in_ok-ask.ensures.ok c.requires
