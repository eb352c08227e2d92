use Rattle.std.proofs.Common.{◌≡◌, ◌<◌, List, refl, subst, sym}
use Rattle.std.specs.Prelude.{Some, slice_get}
use Rattle.base_bytes.proofs.Checks.{first_runs, runs_from_first}
use Rattle.planet_cell.specs.Planet.{batch_item_of, item_of}
use Rattle.planet_cell.specs.declared.batch.Batch.{Batch}
use Rattle.planet_cell.specs.declared.building_item.BuildingItem.{BuildingItem}
use Rattle.base_bytes.proofs.planet_rules.planet_runs_after.Goals as goal

pub returns-then-runs_after : goal.returns-then-runs_after
returns-then-runs_after c =
    let planet = c.args.planet.now in
    let built = λ (items : List BuildingItem). (x : BuildingItem) → Some x ≡ slice_get items 0 → c.args.moment < x.second in
    let made = λ (items : List Batch). (x : Batch) → Some x ≡ slice_get items 0 → c.args.moment < x.second in (
      λ yes_true. (
        runs_from_first (item_of planet.at) c.args.moment planet.buildings.items (subst built c.deref.ensures.value (c.if-runs_after.ensures.0 refl)),
        runs_from_first (batch_item_of planet.at) c.args.moment planet.yard.items (subst made c.deref-then-runs_after.ensures.value (c.runs_after-then-runs_after.ensures.0 yes_true)),
      ),
      λ runs. c.runs_after-then-runs_after.ensures.1 (subst made (sym c.deref-then-runs_after.ensures.value) (first_runs (batch_item_of planet.at) c.args.moment planet.yard.items runs.1)),
    )

pub returns-else-runs_after : goal.returns-else-runs_after
returns-else-runs_after c =
    let planet = c.args.planet.now in
    let built = λ (items : List BuildingItem). (x : BuildingItem) → Some x ≡ slice_get items 0 → c.args.moment < x.second in
    let no_true = c.if-runs_after.false in (
      λ yes_true. absurd (cc (yes_true, no_true)),
      λ runs. c.runs_after.ensures.1 (subst built (sym c.deref.ensures.value) (first_runs (item_of planet.at) c.args.moment planet.buildings.items runs.0)),
    )
