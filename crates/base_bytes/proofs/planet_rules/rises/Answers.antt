use Rattle.std.proofs.Common.{◌≡◌, ◌+◌, All, List, arith, drop, rules, subst, sym}
use Rattle.std.proofs.lemmas.Bool.Decides.{nat_tests}
use Rattle.base_bytes.proofs.PlanetChecks.{building_rises, rises_building}
use Rattle.planet_cell.specs.Planet.{fields_of}
use Rattle.planet_cell.specs.declared.building_item.BuildingItem.{BuildingItem}
use Rattle.tick_model.specs.Production.{level_of}
use Rattle.base_bytes.proofs.planet_rules.rises.Goals as goal

pub returns-then-from : goal.returns-then-from
returns-then-from c =
    let planet = c.args.planet.now in
    let first = c.in-Some.first in
    let level = level_of (fields_of planet) in
    let idle = λ (items : List BuildingItem). All (λ (item : BuildingItem). (item.level ≡ 0) × (item.second ≡ 0)) (drop 1 items) in
    let up : first.level ≡ level first.kind.kind + 1 = search rules in (
      λ yes_true. building_rises level planet.at planet.buildings.items first c.in-Some.ensures up (subst idle c.deref.ensures.value (c.others_wait.ensures.0 yes_true)),
      λ rises. c.others_wait.ensures.1 (subst idle (sym c.deref.ensures.value) (rises_building level planet.at planet.buildings.items first c.in-Some.ensures rises).1),
    )

pub returns-else-from : goal.returns-else-from
returns-else-from c =
    let planet = c.args.planet.now in
    let first = c.in-Some.first in
    let level = level_of (fields_of planet) in (
      λ yes_true. absurd (grind (arith, nat_tests)),
      λ rises. let up = (rises_building level planet.at planet.buildings.items first c.in-Some.ensures rises).0 in grind (arith, nat_tests),
    )
