use Rattle.std.proofs.Common.{◌≡◌, ap, refl, slice_index, ◌+◌, ◌∙◌}
use Rattle.std.specs.Prelude.{slice_set}
use Rattle.planet_cell.proofs.Yards.{last_done, one_ahead}
use Rattle.planet_cell.specs.Planet.{batches_of, fields_of}
use Rattle.planet_cell.specs.Yard.{yard_of}
use Rattle.tick_model.specs.Buildings.{Built}
use Rattle.tick_model.specs.Universe.{PlanetFields, of_planet}
use Rattle.planet_cell.proofs.planet.Planet.finish_unit.Goals as goal

pub returns-then-done-gt1-clause-built : goal.returns-then-done-gt1-clause-built
returns-then-done-gt1-clause-built c =
    let planet = c.args.self.now in
    one_ahead c.args.speed (fields_of planet) planet.at planet.yard.items c.index-done.result.now (yard_of c.build_ahead.new.self) c.requires.yard c.index-done.ensures c.if-done-gt1.true c.build_ahead.ensures.works

pub returns-clause-built : goal.returns-clause-built
returns-clause-built c =
    let planet = c.args.self.now in
    let place = c.place_of_unit.result in
    let with_one : PlanetFields → Built = λ x. record { own = of_planet (record x { units = slice_set x.units place (slice_index x.units place + 1) }); queue = batches_of c.begin_next.new.self } in
    let fields : with_one (fields_of c.begin_next.new.self) ≡ with_one (fields_of planet) = ap with_one c.begin_next.ensures.fields in
    fields
    ∙ last_done c.args.speed (fields_of planet) planet.at planet.yard.items c.index-done.result.now place _ (batches_of c.begin_next.new.self) c.requires.yard c.index-done.ensures c.if-done-gt1.false c.place_of_unit.ensures.value refl c.begin_next.ensures.yard
