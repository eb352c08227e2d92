use Rattle.tick_model.proofs.LimitsWorlds.{worlds-limits}
use Rattle.tick_model.proofs.laws.worlds_keep_limits.Goals as goal

pub returns : goal.returns
returns c = worlds-limits
