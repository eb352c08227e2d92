use Rattle.fronts.specs.Pair.{pair}
use Rattle.fronts.proofs.tests.two_threads_share_one_history.Given as goal

-- both players' entries touch the accounts of both
abbrev pub ghosts-started : goal.ghosts-started
ghosts-started g a = record { start = pair a.first a.second }
