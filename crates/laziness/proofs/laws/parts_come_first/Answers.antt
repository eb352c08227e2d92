use Rattle.laziness.proofs.laws.parts_come_first.Goals as goal
use Rattle.laziness.proofs.Parts.{parts-come-first}

abbrev pub returns : goal.returns
returns g c setting = parts-come-first (g.T.Ticking.model setting) (g.T.Ticking.laws setting)
