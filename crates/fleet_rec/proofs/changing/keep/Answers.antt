use Rattle.std.proofs.Common.{map, ap, ◌∙◌, rules}
use Rattle.std.proofs.lemmas.Fn.{filter_same}
use Rattle.fleet_rec.proofs.Changed.{kept_seen}
use Rattle.fleet_rec.specs.Fleet.{fleet_seen}
use Rattle.tick_model.specs.Views.{belongs}
use Rattle.fleet_rec.proofs.changing.keep.Goals as goal

pub returns : goal.returns
returns c =
    ap (map fleet_seen) (filter_same _ (λ fleet. belongs c.args.cell (fleet_seen fleet)) _ (λ x b f' called. search rules) _ _ c.retain.ensures.filtered)
    ∙ kept_seen (belongs c.args.cell) c.args.fleets.now.items
