use Rattle.std.proofs.Common.{[], ◌∷◌, ◌∙◌, sym}
use Rattle.base_ids.proofs.Names.{player_is}
use Rattle.lazy.proofs.Samples.{sound_two}
use Rattle.lazy.proofs.tests.base.Goals as goal

pub returns : goal.returns
returns c =
    let account = c.in_ok-account.field-0 in
    let one = c.planet.result in
    let two = c.planet-2.result in
    sound_two _ account one two c.new.ensures c.in_ok-vec.ensures.items c.in_ok-vec-2.ensures.items (c.in_ok-account.ensures.planets ∙ (λ i. sym c.planet.ensures.at i ∷ sym c.planet-2.ensures.at i ∷ [])) c.in_ok-account.ensures.units
    c.in_ok-account.ensures.research
    (player_is one.owner account.player (c.planet.ensures.owner ∙ sym c.in_ok-account.ensures.player)) (player_is two.owner account.player (c.planet-2.ensures.owner ∙ sym c.in_ok-account.ensures.player))
    (rw (c.planet.ensures.at, c.planet-2.ensures.at) c.requires.rises)
    (record { kinds = c.planet.ensures.kinds; levels = c.planet.ensures.levels; units = c.planet.ensures.units; buildings = c.planet.ensures.buildings; yard = c.planet.ensures.yard })
    (record { kinds = c.planet-2.ensures.kinds; levels = c.planet-2.ensures.levels; units = c.planet-2.ensures.units; buildings = c.planet-2.ensures.buildings; yard = c.planet-2.ensures.yard })
