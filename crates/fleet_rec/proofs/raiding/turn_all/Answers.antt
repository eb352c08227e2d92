use Rattle.std.proofs.Common.{◌≡◌, ◌<◌, ◌∙◌, Some, ap, arith, get_or, length, map, sym}
use Rattle.std.proofs.lemmas.List.{get_or_default}
use Rattle.fleet_rec.proofs.Changed.{changed_more, seen_in, still_left, still_there}
use Rattle.fleet_rec.specs.Fleet.{fleet_seen}
use Rattle.fleet_rec.specs.declared.fleet.Fleet.{Fleet}
use Rattle.fleet_rec.specs.Fleets.{turned_if}
use Rattle.tick_model.specs.Universe.{Fleet as FleetInList}
use Rattle.fleet_rec.proofs.raiding.turn_all.Goals as goal

pub fleets-preserved : goal.fleets-preserved
fleets-preserved c =
    let here : c.fleets.fleet-index < length c.args.fleets.now = omega arith in
    let there : c.fleets.fleet-index < length c.fleets.fleets = omega arith in
    let fleet = c.fleet-item.result in
    let is : fleet ≡ get_or c.args.fleets.now c.fleets.fleet-index fleet = still_there c.fleets.fleets c.args.fleets.now c.fleets.fleet-index fleet there here c.fleets.invariant.left c.fleet-item.is in
    let became = λ (x : FleetInList). Some (turned_if c.args.fought.now c.args.left.now x) in
    let becomes : became (fleet_seen fleet) ≡ Some (fleet_seen c.turned_if.result) =
    ap (λ (x : Fleet). became (fleet_seen x)) c.fleet-item.is ∙ ap Some (sym c.turned_if.ensures) in
    record {
      changed = changed_more became c.args.fleets.now c.fleets.fleets c.fleets.fleet-index fleet _ c.fleets.invariant.changed here there is becomes;
      left = still_left c.fleets.fleets c.args.fleets.now c.fleets.fleet-index _ there here c.fleets.invariant.left;
    }

pub turned_if-requires : goal.turned_if-requires
turned_if-requires c named =
    let here : c.fleets.fleet-index < length c.args.fleets.now = omega arith in
    let there : c.fleets.fleet-index < length c.fleets.fleets = omega arith in
    let fleet = get_or c.fleets.fleets c.fleets.fleet-index c.fleet-item.result in
    let is : fleet ≡ get_or c.args.fleets.now c.fleets.fleet-index fleet =
    still_there c.fleets.fleets c.args.fleets.now c.fleets.fleet-index fleet there here c.fleets.invariant.left (get_or_default c.fleets.fleets c.fleets.fleet-index c.fleet-item.result fleet there) in
    c.requires (fleet_seen fleet) (seen_in c.args.fleets.now c.fleets.fleet-index fleet here is) named
