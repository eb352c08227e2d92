use Rattle.std.specs.Prelude.{option_map}
use Rattle.fleet_rec.specs.Fleet.{cargo_seen, fleet_seen}
use Rattle.happenings.proofs.Left.{both_left, target_leaves, target_owner_leaves}
use Rattle.happenings.proofs.held.Held.leave_abroad.Goals as goal

pub leave_target-requires-clause-leave : goal.leave_target-requires-clause-leave
leave_target-requires-clause-leave c = target_leaves c.args.self.now (fleet_seen c.args.fleet.now) (option_map cargo_seen c.args.back) c.requires.leave

pub leave_target_owner-requires-clause-leave : goal.leave_target_owner-requires-clause-leave
leave_target_owner-requires-clause-leave c =
    target_owner_leaves c.args.rules.now c.args.self.now c.leave_target.new.self (fleet_seen c.args.fleet.now) (option_map cargo_seen c.args.back) c.requires.leave c.leave_target.ensures.leaves

pub returns-clause-leaves : goal.returns-clause-leaves
returns-clause-leaves c =
    both_left c.args.rules.now (fleet_seen c.args.fleet.now) (option_map cargo_seen c.args.back) c.args.self.now c.leave_target.new.self c.leave_target_owner.new.self c.leave_target.ensures.leaves
    (c.leave_target_owner.ensures.leaves c.args.rules.now)
