use Rattle.fronts.proofs.fronts.Fronts.give_as.Given as goal

-- the claim that is given
abbrev pub ghosts-give_named : goal.ghosts-give_named
ghosts-give_named g a = record { claim = a.claim }
