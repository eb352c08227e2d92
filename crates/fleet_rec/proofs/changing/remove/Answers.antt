use Rattle.std.proofs.Common.{◌==◌, not, map, ap, ◌∙◌, rules}
use Rattle.std.proofs.lemmas.Fn.{filter_same}
use Rattle.fleet_rec.proofs.Changed.{removed_seen}
use Rattle.fleet_rec.specs.Fleet.{fleet_seen}
use Rattle.fleet_rec.proofs.changing.remove.Goals as goal

pub returns : goal.returns
returns c =
    ap (map fleet_seen) (filter_same _ (λ fleet. not (fleet.number == c.args.number)) _ (λ x b f' called. search rules) _ _ c.retain.ensures.filtered)
    ∙ removed_seen c.args.number c.args.fleets.now.items
