-- What is left of the fleets of the attackers. Rules: docs/RULES.md, "Attacks" and "Loot".
use Rattle.std.specs.Prelude.{◌≡◌, ℕ, List, [], ◌∷◌, ◌++◌, All, Option, Some, None, IsTrue, length, map, nat_le, sum, take, if◌then◌else◌}
use Rattle.std.specs.List.{list_all}
use Rattle.battle.specs.declared.outcome.Verdict.{Verdict}
use Rattle.battle.specs.declared.part.Part.{Part}
use Rattle.catalog.specs.declared.classes.TheConstants.{UNIT_KINDS}
use Rattle.catalog.specs.declared.ships.TheConstants.{SHIPS, UNITS}
use Rattle.fleet_rec.specs.Fleet.{cargo_seen, fleet_seen}
use Rattle.planet_cell.specs.declared.planet.Planet.{Planet}
use Rattle.prices.specs.Prices.{cost_in}
use Rattle.tick_model.specs.Battles.{battered, debris_after, laden, loot_if, losses, survivors, units_after}
use Rattle.tick_model.specs.Buildings.{can_pay}
use Rattle.tick_model.specs.Flights.{left_by}
use Rattle.tick_model.specs.Universe.{Fleet}
use Rattle.raids.specs.Parts.{raider_parts}
use Rattle.raids.specs.declared.aftermath.Aftermath.{Aftermath}
use Rattle.raids.specs.declared.aftermath.Raider.{Raider}

-- the fleets that fight
abbrev pub fleets_seen : List Raider → List Fleet
fleets_seen raiders = map (λ raider. fleet_seen raider.fleet) raiders

-- and their numbers
abbrev pub numbers_of : List Raider → List ℕ
numbers_of raiders = map (λ raider. raider.fleet.number) raiders

-- the fleet with what is left of it, if it has ships left
abbrev pub survivor : Fleet → Part → Option Fleet
survivor fleet left = let after = battered fleet left in if nat_le 1 (sum after.ships) then Some after else None

-- What a battle leaves, by who has won it and by what is left of the parts of the fleets and of the planet's part.
pub record IsLeft (raiders : List Raider) (lefts : List Part) (planet : Planet) (home : Part) (verdict : Verdict) (after : Aftermath) : Type 0 where
  pub taken_is : cargo_seen after.taken ≡ loot_if verdict (survivors (fleets_seen raiders) lefts) planet.stock
  pub paid : IsTrue (can_pay planet.stock (cost_in after.taken))
  pub fleets_are : after.fleets ≡ laden (cargo_seen after.taken) (survivors (fleets_seen raiders) lefts)
  pub debris_is : after.debris ≡ debris_after planet.debris (losses (raider_parts raiders) lefts ++ left_by planet.units home.n ∷ [])
  pub units_are : after.units ≡ units_after UNIT_KINDS planet.units home.n

-- a part has no more ships of a kind than a fleet may have
abbrev pub IsFleet : Part → Type 0
IsFleet part = IsTrue (list_all (λ count. nat_le count UNITS) (take (length SHIPS) part.n))

abbrev pub AreFleets : List Part → Type 0
AreFleets parts = All IsFleet parts
