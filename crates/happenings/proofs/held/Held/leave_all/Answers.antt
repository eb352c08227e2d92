use Rattle.std.specs.Prelude.{option_map}
use Rattle.fleet_rec.specs.Fleet.{cargo_seen, fleet_seen}
use Rattle.happenings.proofs.Left.{all_left_back, all_left_out, leave_at_home, leave_out_there}
use Rattle.happenings.proofs.held.Held.leave_all.Goals as goal

pub leave_home-requires-clause-leave : goal.leave_home-requires-clause-leave
leave_home-requires-clause-leave c = leave_at_home c.args.self.now (fleet_seen c.args.fleet.now) (option_map cargo_seen c.args.back) c.requires.leave

pub leave_abroad-requires-clause-leave : goal.leave_abroad-requires-clause-leave
leave_abroad-requires-clause-leave c =
    leave_out_there c.args.rules.now c.args.self.now c.leave_home.new.self (fleet_seen c.args.fleet.now) (option_map cargo_seen c.args.back) c.requires.leave c.if-fleet.true c.leave_home.ensures.leaves

pub returns-then-fleet-clause-leaves : goal.returns-then-fleet-clause-leaves
returns-then-fleet-clause-leaves c =
    all_left_out c.args.rules.now (fleet_seen c.args.fleet.now) (option_map cargo_seen c.args.back) c.args.self.now c.leave_home.new.self c.leave_abroad.new.self c.if-fleet.true
    c.leave_home.ensures.leaves c.leave_abroad.ensures.leaves

pub returns-else-fleet-clause-leaves : goal.returns-else-fleet-clause-leaves
returns-else-fleet-clause-leaves c =
    all_left_back c.args.rules.now (fleet_seen c.args.fleet.now) (option_map cargo_seen c.args.back) c.args.self.now c.leave_home.new.self c.if-fleet.false c.leave_home.ensures.leaves
