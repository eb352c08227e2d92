use Rattle.fronts.proofs.TokenSteps.{pass_given}
use Rattle.fronts.proofs.fronts.Fronts.give.Goals as goal

pub invariant_of-pass : goal.invariant_of-pass
invariant_of-pass g c = pass_given g.O.Origin.start c.pass.inside.token c.give_as-token.new.token c.args.claim c.give_as-token.ensures.kept (rw c.pass.view_is c.requires.other) c.pass.invariant
