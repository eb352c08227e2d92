use Rattle.std.proofs.Common.{map}
use Rattle.fleet_rec.specs.Fleet.{fleet_seen}
use Rattle.happenings.proofs.Brought.{account_needs}
use Rattle.happenings.proofs.held.AccountCell.brings.Goals as goal

pub returns : goal.returns
returns c =
    account_needs c.args.self.now c.args.moment c.deref.result.now c.in_ok-ids.ids c.add_landings.new.ids (map fleet_seen c.as_slice.result.now) c.in_ok-ids.ensures c.deref.ensures.value
    c.as_slice.ensures c.in_ok-add_landings.ensures
