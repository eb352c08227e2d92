use Rattle.lazy.proofs.Filling.{planets-more}
use Rattle.lazy.proofs.beginning.hold_planets.Goals as goal

pub planets-preserved : goal.planets-preserved
planets-preserved c =
    let below = rw c.deref-planet-items.ensures.value at c.planets-test.true in
    let is = rw c.deref-planet-items.ensures.value at c.planet-item.is in
    planets-more c.args.base.now c.planets.cells c.put_planet.new.self c.planets.planet-index c.planet-item.result c.in_ok-copy.field-0 c.new.result c.requires.sound below is
    c.in_ok-copy.ensures c.new.ensures c.planets.invariant c.in_ok-put_planet.ensures.puts c.in_ok-put_planet.ensures.named
