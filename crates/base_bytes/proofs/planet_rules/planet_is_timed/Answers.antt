use Rattle.std.proofs.Common.{◌+◌, ◌≤◌, All, subst, sym}
use Rattle.base_bytes.proofs.PlanetChecks.{items_timed, timed_items}
use Rattle.planet_cell.specs.declared.batch.Batch.{Batch}
use Rattle.base_bytes.proofs.planet_rules.planet_is_timed.Goals as goal

pub returns : goal.returns
returns c =
    let planet = c.args.planet.now in
    let next = λ (batch : Batch). batch.second ≤ c.args.moment + batch.unit_seconds in (
      λ yes_true. items_timed c.args.moment planet.at planet.buildings.items planet.yard.items (subst (All next) c.deref.ensures.value (c.are_timed.ensures.0 yes_true)),
      λ all. c.are_timed.ensures.1 (subst (All next) (sym c.deref.ensures.value) (timed_items c.args.moment planet.at planet.buildings.items planet.yard.items all)),
    )
