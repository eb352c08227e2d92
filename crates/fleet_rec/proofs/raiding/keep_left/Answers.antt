use Rattle.std.proofs.Common.{map, ap, ◌∙◌, rules}
use Rattle.std.proofs.lemmas.Fn.{filter_same}
use Rattle.fleet_rec.proofs.Changed.{kept_seen}
use Rattle.fleet_rec.specs.Fleet.{fleet_seen}
use Rattle.fleet_rec.specs.Fleets.{is_left}
use Rattle.fleet_rec.specs.declared.fleet.Fleet.{Fleet}
use Rattle.fleet_rec.proofs.raiding.keep_left.Goals as goal

pub returns : goal.returns
returns c =
    ap (map fleet_seen) (filter_same _ (λ (fleet : Fleet). is_left c.args.fought.now c.args.left.now (fleet_seen fleet)) _ (λ x b f' called. search rules) _ _ c.retain.ensures.filtered)
    ∙ kept_seen (is_left c.args.fought.now c.args.left.now) c.args.fleets.now.items
