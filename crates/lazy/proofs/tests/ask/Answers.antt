use Rattle.std.proofs.Common.{subst, sym}
use Rattle.lazy.specs.Keeping.{KeepsSome}
use Rattle.lazy.proofs.Samples.{goes_on}
use Rattle.lazy.proofs.tests.ask.Goals as goal

pub returns-in_err-ask : goal.returns-in_err-ask
returns-in_err-ask g c = subst KeepsSome (sym c.in_err-ask.ensures.err) c.requires.keeps

pub returns : goal.returns
returns g c = goes_on c.args.universe.now c.ask.new.self _ c.args.req c.args.reading _ c.in_ok-ask.ensures.ok c.requires.keeps
