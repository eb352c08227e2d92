use Rattle.std.proofs.Common.{◌≡◌, map, take}
use Rattle.raids.specs.Parts.{raider_part}
use Rattle.raids.proofs.mustering.attackers.Given as goal

abbrev pub invariant-raiders : goal.invariant-raiders
invariant-raiders l = l.side ≡ map raider_part (take l.raider-index l.raiders)
