use Rattle.laziness.proofs.laws.cells_decide.Goals as goal
use Rattle.laziness.proofs.Theorems.{cells-decide}

abbrev pub returns : goal.returns
returns g c setting = cells-decide (g.T.Ticking.model setting) (g.T.Ticking.laws setting)
