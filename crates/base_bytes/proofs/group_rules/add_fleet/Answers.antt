use Rattle.base_bytes.proofs.Grouping.{last-joins}
use Rattle.fleet_rec.specs.Fleet.{fleet_seen}
use Rattle.tick_model.specs.Raids.{outbound_in}
use Rattle.base_bytes.proofs.group_rules.add_fleet.Goals as goal

pub returns-in_default-clause-fits : goal.returns-in_default-clause-fits
returns-in_default-clause-fits c = λ seen noted fit.
    let fleet = c.args.fleet.now in
    absurd (c.in_default.ensures (outbound_in fleet.group seen) (noted fleet.group) (last-joins seen (fleet_seen fleet) c.if-not-fleet.false fit))
