use Rattle.tick_model.proofs.Keeping.{answers-entry}
use Rattle.tick_model.proofs.laws.entries_are_answered.Goals as goal

pub returns : goal.returns
returns c = answers-entry
