-- A planet or an account whose queues are empty keeps its levels.
use Rattle.std.proofs.Common.{◌≡◌, ◌≤◌, true, List, [], length, map, arith, ap, sym, subst}
use Rattle.account_cell.specs.Account.{account_fields, research_of}
use Rattle.account_cell.specs.declared.account.Account.{Account}
use Rattle.catalog.specs.Classes.{is_building}
use Rattle.catalog.specs.Levels.{level_cap_of}
use Rattle.catalog.specs.Technologies.{level_in}
use Rattle.catalog.specs.declared.kind.Kind.{Kind}
use Rattle.planet_cell.specs.Planet.{batch_item_of, fields_of, item_of, queue_of}
use Rattle.planet_cell.specs.declared.batch.Batch.{Batch}
use Rattle.planet_cell.specs.declared.building_item.BuildingItem.{BuildingItem}
use Rattle.planet_cell.specs.declared.planet.Planet.{Planet}
use Rattle.tick_model.specs.Limits.{KeepsLevels, KeepsTechs, OthersWait, Rises, ordered_units}
use Rattle.tick_model.specs.Production.{level_of}
use Rattle.tick_model.specs.Refusals.{is_dome, queued, used_fields}
use Rattle.tick_model.specs.Universe.{Item}
use Rattle.tick_model.specs.Yards.{count_of}

level-within : (planet : Planet) (kind : Kind) → is_building kind ≡ true → level_of (fields_of planet) kind ≤ level_cap_of kind
unfolding level_of
level-within planet kind is = let most = planet.within_levels.each kind is in omega (arith, most)

pub fresh-levels : (planet : Planet) → planet.buildings.items ≡ [] → planet.yard.items ≡ [] → used_fields (fields_of planet) ≤ planet.fields
    → ((kind : Kind) → is_dome kind ≡ true → count_of (fields_of planet) kind ≤ 1) → KeepsLevels (fields_of planet) (queue_of planet)
fresh-levels planet buildings yard used domes = record {
  capped = λ kind is.
      let none : queued kind (map (item_of planet.at) planet.buildings.items) ≡ 0 = ap (λ (items : List BuildingItem). queued kind (map (item_of planet.at) items)) buildings in
      let most = level-within planet kind is in
      omega (arith, none, most);
  fielded =
      let none : length (map (item_of planet.at) planet.buildings.items) ≡ 0 = ap (λ (items : List BuildingItem). length (map (item_of planet.at) items)) buildings in
      omega (arith, none, used);
  domed = λ kind is.
      let none : ordered_units kind (map (batch_item_of planet.at) planet.yard.items) ≡ 0 = ap (λ (items : List Batch). ordered_units kind (map (batch_item_of planet.at) items)) yard in
      let one = domes kind is in
      omega (arith, none, one);
  rising = subst (Rises (level_of (fields_of planet))) (sym (ap (λ (items : List BuildingItem). map (item_of planet.at) items) buildings)) tt;
  waiting = subst OthersWait (sym (ap (λ (items : List Batch). map (batch_item_of planet.at) items) yard)) tt;
}

pub fresh-techs : (account : Account) → research_of account ≡ [] → KeepsTechs (account_fields account) (research_of account)
fresh-techs account research = record {
  capped = λ kind is.
      let none : queued kind (research_of account) ≡ 0 = ap (λ (items : List Item). queued kind items) research in
      let most = account.within_levels.each kind is in
      omega (arith, none, most);
  rising = subst (Rises (level_in account.techs.n)) (sym research) tt;
}
