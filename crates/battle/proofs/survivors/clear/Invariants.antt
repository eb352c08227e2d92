-- The parts so far have no units, and the others will have none.
use Rattle.std.proofs.Common.{◌≡◌, [], ◌++◌, map, take, drop}
use Rattle.std.specs.List.{enumerate_from}
use Rattle.battle.specs.Outcomes.{survivors}
use Rattle.battle.proofs.Counts.{left_of}
use Rattle.battle.proofs.survivors.clear.Given as goal

abbrev pub invariant-parts : goal.invariant-parts
invariant-parts l =
    take l.part-index l.side ++ map (λ placed. left_of [] placed.0 placed.1) (enumerate_from l.part-index (drop l.part-index l.side))
    ≡ survivors [] l.initial.side
