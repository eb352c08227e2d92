use Rattle.fronts.proofs.fronts.Fronts.append_as.Given as goal

-- the entry that is appended
abbrev pub ghosts-append_named : goal.ghosts-append_named
ghosts-append_named g a = record { entry = a.entry.now }
