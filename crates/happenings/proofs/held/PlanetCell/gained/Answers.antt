use Rattle.std.proofs.Common.{ap, ◌∙◌, sym}
use Rattle.happenings.specs.Gaining.{gained}
use Rattle.happenings.proofs.Gains.{same_stand}
use Rattle.happenings.proofs.held.PlanetCell.gained.Goals as goal

pub returns-clause-stand : goal.returns-clause-stand
returns-clause-stand c =
    let same = c.in_ok-later.ensures in
    c.gain_to.ensures.stand ∙ ap (gained c.args.rules.now c.args.moment) (sym (same_stand c.args.self.now c.in_ok-later.later (sym same.0) same.1 (sym same.2)))
