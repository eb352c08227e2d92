use Rattle.tick_model.proofs.Keeping.{founded-later}
use Rattle.tick_model.proofs.Worlds.{stands-world}
use Rattle.tick_model.proofs.laws.worlds_are_founded.Goals as goal

pub returns : goal.returns
returns c = record { stands = stands-world; founded = founded-later }
