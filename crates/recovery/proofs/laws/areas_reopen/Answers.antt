use Rattle.recovery.proofs.Wholes.{areas-reopen}
use Rattle.recovery.proofs.laws.areas_reopen.Goals as goal

pub returns : goal.returns
returns c = areas-reopen
