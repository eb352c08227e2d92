use Rattle.laziness.proofs.laws.seconds_end.Goals as goal
use Rattle.laziness.proofs.Theorems.{seconds-end}

abbrev pub returns : goal.returns
returns g c setting = seconds-end (g.T.Ticking.model setting) (g.T.Ticking.laws setting)
