use Rattle.std.proofs.Common.{subst, sym, false}
use Rattle.base_bytes.specs.Base.{planet_items}
use Rattle.base_bytes.specs.Counting.{Meets}
use Rattle.planet_cell.specs.Planet.{batches_of, buildings_of}
use Rattle.base_bytes.proofs.Meeting.{meets-both, meets-some}
use Rattle.base_bytes.proofs.distinct.Met.meet_planet.Goals as goal

pub returns-in_ok-meet_batches : goal.returns-in_ok-meet_batches
returns-in_ok-meet_batches c =
    let planet = c.args.planet.now in
    let first = subst (Meets (buildings_of planet) c.args.self.now c.meet_buildings.new.self) c.if-branch.true c.in_ok-meet_buildings.ensures in
    meets-both (buildings_of planet) (batches_of planet) c.args.self.now c.meet_buildings.new.self c.meet_batches.new.self c.in_ok-meet_batches.field-0 first c.in_ok-meet_batches.ensures

pub returns-else-branch : goal.returns-else-branch
returns-else-branch c =
    let planet = c.args.planet.now in
    let stop = subst (Meets (buildings_of planet) c.args.self.now c.meet_buildings.new.self) c.if-branch.false c.in_ok-meet_buildings.ensures in
    subst (λ b. Meets (planet_items planet) c.args.self.now c.meet_buildings.new.self b) (sym c.if-branch.false)
    (meets-some (buildings_of planet) (batches_of planet) c.args.self.now c.meet_buildings.new.self c.meet_buildings.new.self stop)
