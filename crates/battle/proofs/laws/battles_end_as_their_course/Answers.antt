use Rattle.battle.proofs.CourseEnds.{battle_end_is_fought, left_by_course, one_battle_end, outcome_by_course}
use Rattle.battle.proofs.laws.battles_end_as_their_course.Goals as goal

pub returns-clause-outcome : goal.returns-clause-outcome
returns-clause-outcome c = outcome_by_course

pub returns-clause-left : goal.returns-clause-left
returns-clause-left c = left_by_course

pub returns-clause-is_end : goal.returns-clause-is_end
returns-clause-is_end c = battle_end_is_fought

pub returns-clause-one_end : goal.returns-clause-one_end
returns-clause-one_end c = one_battle_end
