use Rattle.tick_model.proofs.LimitsWorlds.{worlds-time}
use Rattle.tick_model.proofs.laws.worlds_keep_time.Goals as goal

pub returns : goal.returns
returns c = worlds-time
