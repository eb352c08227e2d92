use Rattle.laziness.proofs.laws.closures_are_least.Goals as goal
use Rattle.laziness.proofs.Theorems.{closures-least}

abbrev pub returns : goal.returns
returns g c setting = closures-least (g.T.Ticking.model setting) (g.T.Ticking.laws setting)
