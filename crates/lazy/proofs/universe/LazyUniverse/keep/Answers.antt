use Rattle.std.proofs.Common.{refl}
use Rattle.lazy.proofs.Continuing.{continues}
use Rattle.lazy.proofs.universe.LazyUniverse.keep.Goals as goal

pub returns-clause-asks : goal.returns-clause-asks
returns-clause-asks c = λ player req reading is.
    continues c.args.self.now _ c.args.prepared player req reading is c.put_all.ensures.merges c.put_all.ensures.named refl refl refl refl
