use Rattle.tick_model.proofs.Keeping.{keeps-history}
use Rattle.tick_model.proofs.laws.histories_are_kept.Goals as goal

pub returns : goal.returns
returns c = keeps-history
