use Rattle.std.proofs.Common.{rules}
use Rattle.battle.proofs.Counts.{added, not_added}
use Rattle.battle.proofs.survivors.add_one.Goals as goal

pub returns-in-Some : goal.returns-in-Some
returns-in-Some c = added c.args.part.now c.args.kind c.in-Some.place (search rules) c.in-Some.ensures.within c.in-Some.ensures.found

pub returns-in_default : goal.returns-in_default
returns-in_default c = not_added c.args.part.now c.args.kind c.in_default.ensures.none
