use Rattle.recovery.proofs.Once.{opens-once}
use Rattle.recovery.proofs.laws.areas_open_once.Goals as goal

pub returns : goal.returns
returns c = opens-once
