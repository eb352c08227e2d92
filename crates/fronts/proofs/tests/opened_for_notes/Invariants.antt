use Rattle.fronts.proofs.tests.opened_for_notes.Given as goal

abbrev pub ghosts-notes : goal.ghosts-notes
ghosts-notes g a = record { table = a.opened }
