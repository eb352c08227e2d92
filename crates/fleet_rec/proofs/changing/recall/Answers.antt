use Rattle.std.proofs.Common.{◌≡◌, ◌<◌, ◌∙◌, Some, ap, arith, get_or, length}
use Rattle.fleet_rec.proofs.Changed.{changed_more, still_left, still_there}
use Rattle.fleet_rec.specs.Fleet.{fleet_seen}
use Rattle.fleet_rec.specs.declared.fleet.Fleet.{Fleet}
use Rattle.fleet_rec.specs.Fleets.{became_at, recalls_at}
use Rattle.fleet_rec.proofs.changing.recall.Goals as goal

pub fleets-preserved : goal.fleets-preserved
fleets-preserved c =
    let here : c.fleets.fleet-index < length c.args.fleets.now = omega arith in
    let there : c.fleets.fleet-index < length c.fleets.fleets = omega arith in
    let fleet = c.fleet-item.result in
    let is : fleet ≡ get_or c.args.fleets.now c.fleets.fleet-index fleet = still_there c.fleets.fleets c.args.fleets.now c.fleets.fleet-index fleet there here c.fleets.invariant.left c.fleet-item.is in
    let becomes : became_at c.args.number (recalls_at c.args.moment) (fleet_seen fleet) ≡ Some (fleet_seen c.recalled_at.result) =
    ap (λ (x : Fleet). became_at c.args.number (recalls_at c.args.moment) (fleet_seen x)) c.fleet-item.is ∙ c.recalled_at.ensures in
    record {
      changed = changed_more (became_at c.args.number (recalls_at c.args.moment)) c.args.fleets.now c.fleets.fleets c.fleets.fleet-index fleet _ c.fleets.invariant.changed here there is becomes;
      left = still_left c.fleets.fleets c.args.fleets.now c.fleets.fleet-index _ there here c.fleets.invariant.left;
    }
