use Rattle.std.proofs.Common.{refl}
use Rattle.happenings.proofs.Gains.{planet_gained_here}
use Rattle.happenings.specs.declared.held.PlanetCell.{PlanetCell}
use Rattle.happenings.proofs.held.PlanetCell.gain_to.Goals as goal

pub returns-clause-stand : goal.returns-clause-stand
returns-clause-stand c =
    let old = c.args.self.now in
    let new : PlanetCell = record { second = c.args.second; planet = c.advance.new.self; fleets = old.fleets } in
    planet_gained_here c.args.rules.now c.args.second c.saturating_sub-seconds.result old new refl refl c.saturating_sub-seconds.ensures c.advance.ensures.fields c.advance.ensures.buildings c.advance.ensures.yard
