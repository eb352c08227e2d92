use Rattle.std.proofs.Common.{map, ap, ◌∙◌, rules}
use Rattle.std.proofs.lemmas.Fn.{filter_same}
use Rattle.fleet_rec.proofs.Changed.{kept_seen}
use Rattle.fleet_rec.specs.Fleet.{fleet_seen}
use Rattle.tick_model.specs.Raids.{is_attack}
use Rattle.fleet_rec.specs.declared.fleet.Fleet.{Fleet}
use Rattle.tick_model.specs.Universe.{Fleet as FleetInList}
use Rattle.fleet_rec.proofs.raiding.keep_attackers.Goals as goal

pub returns : goal.returns
returns c =
    ap (map fleet_seen) (filter_same _ (λ (fleet : Fleet). is_attack fleet.mission) _ (λ x b f' called. search rules) _ _ c.retain.ensures.filtered)
    ∙ kept_seen (λ (fleet : FleetInList). is_attack fleet.mission) c.args.fleets.now.items
