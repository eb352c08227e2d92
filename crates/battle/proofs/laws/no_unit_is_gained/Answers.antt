use Rattle.battle.proofs.laws.no_unit_is_gained.Goals as goal
use Rattle.battle.proofs.Kept.{all_kept, none_gained}

pub returns-clause-all : goal.returns-clause-all
returns-clause-all c = all_kept

pub returns-clause-fewer : goal.returns-clause-fewer
returns-clause-fewer c = none_gained
