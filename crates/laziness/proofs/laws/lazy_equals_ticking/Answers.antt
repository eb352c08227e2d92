use Rattle.laziness.proofs.laws.lazy_equals_ticking.Goals as goal
use Rattle.laziness.proofs.Theorems.{lazy-equals-ticking}

abbrev pub returns : goal.returns
returns g c setting = lazy-equals-ticking (g.T.Ticking.model setting) (g.T.Ticking.laws setting)
