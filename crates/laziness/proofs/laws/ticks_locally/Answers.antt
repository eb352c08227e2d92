use Rattle.laziness.proofs.laws.ticks_locally.Goals as goal
use Rattle.laziness.proofs.Theorems.{ticks-locally}

abbrev pub returns : goal.returns
returns g c setting = ticks-locally (g.T.Ticking.model setting) (g.T.Ticking.laws setting)
