use Rattle.fronts.specs.Pair.{pair}
use Rattle.fronts.proofs.tests.marks_and_notes_go_round.Given as goal

abbrev pub ghosts-opened_for_notes : goal.ghosts-opened_for_notes
ghosts-opened_for_notes g a = record { start = pair a.first a.second }
