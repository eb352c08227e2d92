use Rattle.std.proofs.Common.{◌≡◌, ◌<◌, ◌∙◌, Some, ap, arith, get_or, length}
use Rattle.std.proofs.lemmas.List.{get_or_default}
use Rattle.fleet_rec.proofs.Changed.{changed_more, outbound_at, still_left, still_there}
use Rattle.fleet_rec.specs.Fleet.{cargo_seen, fleet_seen}
use Rattle.fleet_rec.specs.declared.fleet.Fleet.{Fleet}
use Rattle.fleet_rec.specs.Fleets.{became_at}
use Rattle.tick_model.specs.Flights.{turns}
use Rattle.fleet_rec.proofs.changing.turn.Goals as goal

pub fleets-preserved : goal.fleets-preserved
fleets-preserved c =
    let here : c.fleets.fleet-index < length c.args.fleets.now = omega arith in
    let there : c.fleets.fleet-index < length c.fleets.fleets = omega arith in
    let fleet = c.fleet-item.result in
    let is : fleet ≡ get_or c.args.fleets.now c.fleets.fleet-index fleet = still_there c.fleets.fleets c.args.fleets.now c.fleets.fleet-index fleet there here c.fleets.invariant.left c.fleet-item.is in
    let becomes : became_at c.args.number (turns (Some (cargo_seen c.args.cargo))) (fleet_seen fleet) ≡ Some (fleet_seen c.turned_at.result) =
    ap (λ (x : Fleet). became_at c.args.number (turns (Some (cargo_seen c.args.cargo))) (fleet_seen x)) c.fleet-item.is ∙ c.turned_at.ensures in
    record {
      changed = changed_more (became_at c.args.number (turns (Some (cargo_seen c.args.cargo)))) c.args.fleets.now c.fleets.fleets c.fleets.fleet-index fleet _ c.fleets.invariant.changed here there is becomes;
      left = still_left c.fleets.fleets c.args.fleets.now c.fleets.fleet-index _ there here c.fleets.invariant.left;
    }

pub turned_at-requires : goal.turned_at-requires
turned_at-requires c same =
    let here : c.fleets.fleet-index < length c.args.fleets.now = omega arith in
    let there : c.fleets.fleet-index < length c.fleets.fleets = omega arith in
    let fleet = get_or c.fleets.fleets c.fleets.fleet-index c.fleet-item.result in
    let is : fleet ≡ get_or c.args.fleets.now c.fleets.fleet-index fleet =
    still_there c.fleets.fleets c.args.fleets.now c.fleets.fleet-index fleet there here c.fleets.invariant.left (get_or_default c.fleets.fleets c.fleets.fleet-index c.fleet-item.result fleet there) in
    outbound_at c.args.number c.args.fleets.now c.fleets.fleet-index fleet c.requires here is same
