use Rattle.std.proofs.Common.{rules}
use Rattle.std.specs.BTreeMap.{is_at}
use Rattle.happenings.specs.Gaining.{gained}
use Rattle.happenings.specs.Held.{planet_stand}
use Rattle.happenings.specs.Orders.{place_order}
use Rattle.happenings.specs.declared.held.PlanetCell.{PlanetCell}
use Rattle.happenings.proofs.Walked.{walked, walked_same}
use Rattle.happenings.proofs.gaining.gain_planets.Goals as goal

pub returns-clause-gain : goal.returns-clause-gain
returns-clause-gain c at =
    walked _ planet_stand (gained c.args.rules.now c.args.moment) (is_at (place_order at)) _ (λ k v b w f' t. search rules) _ _ c.retain.ensures.filtered

pub returns-clause-named : goal.returns-clause-named
returns-clause-named c at =
    walked_same _ (λ (cell : PlanetCell). cell.planet.at) (is_at (place_order at)) _ (λ k v b w f' t. search rules) _ _ c.retain.ensures.filtered
