use Rattle.std.proofs.Common.{◌∙◌, sym}
use Rattle.std.specs.Prelude.{option_map}
use Rattle.base_ids.specs.declared.cell_id.CellId.TheVariants.{Account as AccountId}
use Rattle.fleet_rec.specs.Fleet.{cargo_seen, fleet_seen}
use Rattle.happenings.proofs.Left.{home_stays, other_left}
use Rattle.happenings.proofs.held.Held.leave_target_owner.Goals as goal

pub leave_account-requires-clause-leave : goal.leave_account-requires-clause-leave
leave_account-requires-clause-leave c = c.requires.leave (sym c.is_home.ensures ∙ c.if-is_home.false)

pub returns-then-is_home-clause-leaves : goal.returns-then-is_home-clause-leaves
returns-then-is_home-clause-leaves c rules =
    home_stays rules (fleet_seen c.args.fleet.now) (option_map cargo_seen c.args.back) c.args.self.now (AccountId c.args.fleet.now.target_owner) (sym c.is_home.ensures ∙ c.if-is_home.true)

pub returns-clause-leaves : goal.returns-clause-leaves
returns-clause-leaves c rules =
    other_left rules (fleet_seen c.args.fleet.now) (option_map cargo_seen c.args.back) c.args.self.now c.leave_account.new.self (AccountId c.args.fleet.now.target_owner)
    (sym c.is_home.ensures ∙ c.if-is_home.false) (c.leave_account.ensures.leaves rules)
