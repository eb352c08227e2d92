-- A planet after many seconds.
use Rattle.std.proofs.Common.{◌≡◌, ℕ, zero, suc, ◌+◌, refl, ap, ◌∙◌}
use Rattle.rates.proofs.Repetition.{times_add}
use Rattle.rates.specs.Production.{produced_once}
use Rattle.rates.specs.Times.{times}
use Rattle.rates.specs.declared.resources.Resources.{Resources}
use Rattle.tick_model.specs.Production.{level_of, limits_of, planet_second, works_of, yields_of}
use Rattle.tick_model.specs.Universe.{PlanetFields}

-- one second changes the stocks, and what they grow by doesn't depend on them
one_second : (speed : ℕ) (planet : PlanetFields) (stock : Resources)
    → planet_second speed (record planet { stock = stock }) ≡ record planet { stock = produced_once (limits_of planet) (yields_of speed planet) stock }
unfolding planet_second limits_of yields_of works_of level_of
one_second speed planet stock = refl

-- many seconds change the stocks alone
pub times_planet : (speed seconds : ℕ) (planet : PlanetFields)
    → times seconds (planet_second speed) planet ≡ record planet { stock = times seconds (produced_once (limits_of planet) (yields_of speed planet)) planet.stock }
unfolding times
times_planet speed zero planet = refl
times_planet speed (suc seconds) planet =
    ap (planet_second speed) (times_planet speed seconds planet) ∙ one_second speed planet (times seconds (produced_once (limits_of planet) (yields_of speed planet)) planet.stock)

pub ruleset seconds_of_planets = (times_planet)

-- some seconds, and then some more, are as many as both together
pub seconds_add : (first second speed : ℕ) (planet : PlanetFields)
    → times second (planet_second speed) (times first (planet_second speed) planet) ≡ times (first + second) (planet_second speed) planet
seconds_add first second speed planet = times_add second first (planet_second speed) planet
