use Rattle.fronts.proofs.TokenSteps.{front_appended, pass_with_front}
use Rattle.fronts.proofs.fronts.Fronts.append.Goals as goal

pub invariant_of-pass : goal.invariant_of-pass
invariant_of-pass g c =
    let h = c.append_as.ensures in
    pass_with_front g.O.Origin.start c.pass.inside.token c.append_as.new.token (front_appended g.O.Origin.start c.pass.inside.token c.append_as.new.token c.args.entry.now h.view) h.history c.pass.invariant
