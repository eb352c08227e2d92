use Rattle.fronts.proofs.tests.started.Given as goal

-- the table that was just made
abbrev pub ghosts-named : goal.ghosts-named
ghosts-named g a = record { table = a.opened }
