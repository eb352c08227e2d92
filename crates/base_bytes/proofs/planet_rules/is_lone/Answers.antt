use Rattle.std.proofs.Common.{◌≡◌, List, ap, arith, rules, ◌∙◌}
use Rattle.std.specs.Prelude.{◌==◌, if◌then◌else◌, sum_by}
use Rattle.std.proofs.lemmas.Bool.Decides.{nat_tests}
use Rattle.base_bytes.proofs.PlanetChecks.{ordered_items}
use Rattle.catalog.specs.Kinds.{kind_number}
use Rattle.planet_cell.specs.Planet.{fields_of}
use Rattle.planet_cell.specs.declared.batch.Batch.{Batch}
use Rattle.tick_model.specs.Yards.{count_of}
use Rattle.base_bytes.proofs.planet_rules.is_lone.Goals as goal

pub returns : goal.returns
unfolding count_of
returns c =
    let planet = c.args.planet.now in
    let kind = c.args.unit.kind in
    let same = ordered_items kind planet.at planet.yard.items in
    let left = λ (batches : List Batch). sum_by (λ (batch : Batch). if kind_number batch.kind.kind == kind_number kind then batch.left else 0) batches in
    let total : c.ordered.result ≡ left planet.yard.items = c.ordered.ensures.total ∙ ap left c.deref.ensures.value in
    let standing : c.from-standing.result ≡ count_of (fields_of planet) kind = search rules in
    (λ yes_true. grind (arith, nat_tests), λ one. grind (arith, nat_tests))
