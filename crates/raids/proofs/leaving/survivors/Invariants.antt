use Rattle.std.proofs.Common.{◌≡◌, ◌++◌, drop}
use Rattle.tick_model.specs.Battles.{survivors}
use Rattle.raids.specs.Leaving.{fleets_seen}
use Rattle.raids.proofs.leaving.survivors.Given as goal

abbrev pub invariant-raiders : goal.invariant-raiders
invariant-raiders l =
    l.fleets ++ survivors (fleets_seen (drop l.place l.raiders)) (drop l.place l.left) ≡ survivors (fleets_seen l.raiders) l.left
