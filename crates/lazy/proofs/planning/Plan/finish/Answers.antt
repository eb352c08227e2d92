use Rattle.lazy.proofs.Finishing.{plan-finished}
use Rattle.lazy.proofs.planning.Plan.finish.Goals as goal

pub returns : goal.returns
returns c setting f held player req moment is =
    plan-finished setting f held player req moment c.args.number c.args.self c.number_ordered.new.cells c.number_ordered.ensures.numbers c.number_ordered.ensures.named is
