use Rattle.std.proofs.Common.{map, ap, ◌∙◌, rules, ◌&&◌, ◌==◌}
use Rattle.std.proofs.lemmas.Fn.{filter_same}
use Rattle.fleet_rec.proofs.Changed.{kept_seen}
use Rattle.fleet_rec.specs.Fleet.{fleet_seen}
use Rattle.fleet_rec.proofs.Raids.{goes}
use Rattle.tick_model.specs.Universe.{Fleet as FleetInList}
use Rattle.base_ids.specs.Cells.{same_coord}
use Rattle.fleet_rec.proofs.raiding.keep_companions.Goals as goal

pub returns : goal.returns
returns c =
    ap (map fleet_seen) (filter_same _ (goes c.args.at c.args.group) _ (λ x b f' called. search rules) _ _ c.retain.ensures.filtered)
    ∙ kept_seen (λ (fleet : FleetInList). fleet.outbound && same_coord fleet.target c.args.at && fleet.group == c.args.group) c.args.fleets.now.items
