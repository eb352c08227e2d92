use Rattle.lazy.proofs.universe.LazyUniverse.ask.Goals as goal

pub returns-clause-ok : goal.returns-clause-ok
returns-clause-ok c = c.keep.ensures.asks c.args.player c.args.req.now c.args.reading c.in_ok-prepared.ensures
