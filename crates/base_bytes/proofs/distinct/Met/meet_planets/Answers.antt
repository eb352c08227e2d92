use Rattle.std.proofs.Common.{ap, subst}
use Rattle.std.proofs.lemmas.List.{get_or_read}
use Rattle.base_bytes.specs.Base.{planet_items}
use Rattle.base_bytes.specs.Counting.{Meets}
use Rattle.base_bytes.proofs.Meeting.{meets-all, meets-more, meets-no}
use Rattle.base_bytes.proofs.distinct.Met.meet_planets.Goals as goal

pub returns-then-not-branch : goal.returns-then-not-branch
returns-then-not-branch c =
    meets-no planet_items c.args.planets.now c.planets.planet-index (planet_items c.planet-item.result) c.args.self.now c.planets.self c.meet_planet.new.self c.planets-test.true
    (λ d. ap planet_items (get_or_read c.args.planets.now c.planets.planet-index c.planet-item.result c.planets-test.true c.planet-item.is d)) c.planets.invariant
    (subst (Meets (planet_items c.planet-item.result) c.planets.self c.meet_planet.new.self) c.if-not-branch.true c.in_ok-meet_planet.ensures)

pub planets-preserved : goal.planets-preserved
planets-preserved c =
    meets-more planet_items c.args.planets.now c.planets.planet-index (planet_items c.planet-item.result) c.args.self.now c.planets.self c.meet_planet.new.self c.planets-test.true
    (λ d. ap planet_items (get_or_read c.args.planets.now c.planets.planet-index c.planet-item.result c.planets-test.true c.planet-item.is d)) c.planets.invariant
    (subst (Meets (planet_items c.planet-item.result) c.planets.self c.meet_planet.new.self) c.if-not-branch.false c.in_ok-meet_planet.ensures)

pub returns : goal.returns
returns c = meets-all planet_items c.args.planets.now c.planets.planet-index c.args.self.now c.planets.self c.planets-test.false c.planets.invariant
