use Rattle.std.proofs.Common.{ap, ◌∙◌, refl, filter}
use Rattle.std.specs.Prelude.{option_map}
use Rattle.base_ids.specs.declared.cell_id.CellId.TheVariants.{Account as AccountId}
use Rattle.fleet_rec.specs.Fleet.{cargo_seen, fleet_seen}
use Rattle.happenings.specs.Held.{account_stand}
use Rattle.happenings.specs.declared.held.AccountCell.{AccountCell}
use Rattle.happenings.proofs.Landed.{account_left}
use Rattle.tick_model.specs.Views.{belongs}
use Rattle.happenings.proofs.held.AccountCell.leave.Goals as goal

pub returns-clause-stand : goal.returns-clause-stand
returns-clause-stand c rules =
    let fleet = fleet_seen c.args.fleet.now in
    let back = option_map cargo_seen c.args.back in
    let old = c.args.self.now in
    let mid : AccountCell = record old { second = fleet.second } in
    let new : AccountCell = record mid { fleets = c.keep.new.self } in
    let name = AccountId old.account.player in
    let fleets = c.keep.ensures ∙ ap (filter (belongs name)) c.land.ensures in
    account_left rules fleet back name old mid new refl (λ i. record (account_stand mid) { seen = record (account_stand mid).seen { fleets = fleets i } })
