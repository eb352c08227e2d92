use Rattle.std.proofs.Common.{ap, ◌∙◌, ◌++◌, ◌∷◌, [], take}
use Rattle.std.specs.Prelude.{if◌then◌else◌}
use Rattle.base_bytes.proofs.Gathering.{owned-more}
use Rattle.base_ids.specs.Cells.{same_player}
use Rattle.base_bytes.proofs.places.places_by_owner.Goals as goal

pub planets-preserved : goal.planets-preserved
planets-preserved c = λ player.
    let planet = c.planet-item.result in
    c.in_ok-add_place.ensures player
    ∙ ap (λ l. l ++ (if same_player planet.owner player then planet.at ∷ [] else [])) (c.planets.invariant player)
    ∙ owned-more player c.args.planets.now c.planets.planet-index planet c.planets-test.true c.planet-item.is
