use Rattle.std.proofs.Common.{◌≡◌, true}
use Rattle.fronts.proofs.Standing.{stands_until_touched}
use Rattle.fronts.proofs.laws.named_cells_stand.Goals as goal

pub returns : goal.returns
returns g c id claims stands named untouched front history follows h =
    stands_until_touched g.O.Origin.start id claims named (λ before. stands before ≡ true) untouched front history follows h
