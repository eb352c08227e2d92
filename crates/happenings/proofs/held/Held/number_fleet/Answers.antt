use Rattle.fleet_rec.specs.Fleet.{fleet_seen}
use Rattle.happenings.proofs.Numbered.{number_back, number_out}
use Rattle.happenings.proofs.held.Held.number_fleet.Goals as goal

pub returns-then-fleet-clause-numbers : goal.returns-then-fleet-clause-numbers
returns-then-fleet-clause-numbers c =
    number_out c.args.number (fleet_seen c.args.fleet.now) c.args.self.now c.number_at.new.self c.number_at-then-fleet.new.self c.if-fleet.true c.number_at.ensures.numbers c.number_at-then-fleet.ensures.numbers

pub returns-else-fleet-clause-numbers : goal.returns-else-fleet-clause-numbers
returns-else-fleet-clause-numbers c = number_back c.args.number (fleet_seen c.args.fleet.now) c.args.self.now c.number_at.new.self c.if-fleet.false c.number_at.ensures.numbers
