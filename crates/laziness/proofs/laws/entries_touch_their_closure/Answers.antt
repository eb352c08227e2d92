use Rattle.laziness.proofs.laws.entries_touch_their_closure.Goals as goal
use Rattle.laziness.proofs.Theorems.{entries-touch}

abbrev pub returns : goal.returns
returns g c setting = entries-touch (g.T.Ticking.model setting) (g.T.Ticking.laws setting)
