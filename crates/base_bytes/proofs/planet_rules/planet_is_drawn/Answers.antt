use Rattle.std.proofs.Common.{◌≤◌, All, refl, subst, sym}
use Rattle.base_bytes.proofs.PlanetChecks.{drawn_items, items_drawn}
use Rattle.planet_cell.specs.declared.batch.Batch.{Batch}
use Rattle.planet_cell.specs.declared.building_item.BuildingItem.{BuildingItem}
use Rattle.base_bytes.proofs.planet_rules.planet_is_drawn.Goals as goal

pub returns-then-are_drawn : goal.returns-then-are_drawn
returns-then-are_drawn c =
    let planet = c.args.planet.now in
    let built = λ (item : BuildingItem). (1 ≤ item.number) × (item.number ≤ c.args.number) in
    let made = λ (batch : Batch). (1 ≤ batch.number) × (batch.number ≤ c.args.number) in (
      λ yes_true. items_drawn c.args.number planet.at planet.buildings.items planet.yard.items (subst (All built) c.deref.ensures.value (c.if-are_drawn.ensures.0 refl))
          (subst (All made) c.deref-then-are_drawn.ensures.value (c.are_drawn-then-are_drawn.ensures.0 yes_true)),
      λ all. c.are_drawn-then-are_drawn.ensures.1 (subst (All made) (sym c.deref-then-are_drawn.ensures.value) (drawn_items c.args.number planet.at planet.buildings.items planet.yard.items all).1),
    )
