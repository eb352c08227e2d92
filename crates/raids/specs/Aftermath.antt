-- What a battle leaves, as the program has it. Rules: docs/RULES.md, "Attacks", "Debris", "Rebuilding" and "Loot".
use Rattle.std.specs.Prelude.{◌≡◌, ℕ, ◌≤◌, List, IsTrue, sum}
use Rattle.std.specs.List.{Contains}
use Rattle.base_ids.specs.declared.cell_id.CellId.{CellId}
use Rattle.base_ids.specs.declared.cell_id.CellId.TheVariants.{Account}
use Rattle.catalog.specs.declared.techs.Techs.{Techs}
use Rattle.planet_cell.specs.Planet.{fields_of}
use Rattle.planet_cell.specs.declared.planet.Planet.{Planet}
use Rattle.prices.specs.Prices.{cost_in}
use Rattle.tick_model.specs.Battles.{Fought, fought, techs_in}
use Rattle.tick_model.specs.Buildings.{can_pay, paid}
use Rattle.tick_model.specs.Raids.{Raid}
use Rattle.tick_model.specs.Rules.{IsIn}
use Rattle.tick_model.specs.Universe.{Fleet, Own}
use Rattle.raids.specs.Leaving.{fleets_seen, numbers_of}
use Rattle.raids.specs.declared.aftermath.Aftermath.{Aftermath}
use Rattle.raids.specs.declared.aftermath.Raider.{Raider}

-- the accounts of those who fight have these technologies
abbrev pub HaveTechs : (CellId → Own) → List Raider → Type 0
HaveTechs own raiders = (raider : Raider) → Contains raiders raider → techs_in (own (Account raider.fleet.owner)) ≡ raider.techs

-- what a battle comes to is what is left
pub record Leaves (came : Fought) (planet : Planet) (after : Aftermath) : Type 0 where
  pub fleets : came.fleets ≡ after.fleets
  pub planet_is : came.planet ≡ record (fields_of planet) { stock = paid (fields_of planet).stock (cost_in after.taken); debris = after.debris; units = after.units }

-- A battle of these fleets on a planet, whose owner has these technologies, leaves this: whatever accounts there are, if they have these
-- technologies. The planet can pay what is taken, and has no more units than before. Each fleet that is left has the number of one that fought.
pub record IsAftermath (seed group : ℕ) (raiders : List Raider) (planet : Planet) (techs : Techs) (after : Aftermath) : Type 0 where
  pub leaves : (own : CellId → Own) (raid : Raid) → raid.group ≡ group → raid.fleets ≡ fleets_seen raiders → HaveTechs own raiders → techs_in (own (Account planet.owner)) ≡ techs
      → Leaves (fought seed own raid (fields_of planet)) planet after
  pub taken : IsTrue (can_pay (fields_of planet).stock (cost_in after.taken))
  pub units : sum after.units ≤ sum planet.units
  pub numbers : (fleet : Fleet) → IsIn fleet after.fleets → IsIn fleet.number (numbers_of raiders)
