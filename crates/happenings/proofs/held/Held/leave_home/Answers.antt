use Rattle.std.specs.Prelude.{option_map}
use Rattle.fleet_rec.specs.Fleet.{cargo_seen, fleet_seen}
use Rattle.happenings.proofs.Left.{home_left, origin_leaves, owner_leaves}
use Rattle.happenings.proofs.held.Held.leave_home.Goals as goal

pub leave_planet-requires-clause-leave : goal.leave_planet-requires-clause-leave
leave_planet-requires-clause-leave c = origin_leaves c.args.self.now (fleet_seen c.args.fleet.now) (option_map cargo_seen c.args.back) c.requires.leave

pub leave_account-requires-clause-leave : goal.leave_account-requires-clause-leave
leave_account-requires-clause-leave c =
    owner_leaves c.args.rules.now c.args.self.now c.leave_planet.new.self (fleet_seen c.args.fleet.now) (option_map cargo_seen c.args.back) c.requires.leave c.leave_planet.ensures.leaves

pub returns-clause-leaves : goal.returns-clause-leaves
returns-clause-leaves c =
    home_left c.args.rules.now (fleet_seen c.args.fleet.now) (option_map cargo_seen c.args.back) c.args.self.now c.leave_planet.new.self c.leave_account.new.self c.leave_planet.ensures.leaves
    (c.leave_account.ensures.leaves c.args.rules.now)
