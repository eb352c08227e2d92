-- Fleets that attack in a group. Rule: docs/RULES.md, "Attacks".
use Rattle.std.specs.Prelude.{ℕ, ◌==◌, ◌&&◌, List, Bool, true, false, filter}
use Rattle.base_ids.specs.Cells.{same_coord}
use Rattle.base_ids.specs.declared.coord.Coord.{Coord}
use Rattle.catalog.specs.declared.mission.Mission.{Mission}
use Rattle.catalog.specs.declared.mission.Mission.TheVariants.{Attack}
use Rattle.tick_model.specs.Universe.{Fleet}

abbrev pub is_attack : Mission → Bool
is_attack Attack = true
is_attack _ = false

-- a fleet flies out to attack
abbrev pub attacks : Fleet → Bool
attacks fleet = fleet.outbound && is_attack fleet.mission

-- the fleets that fly out in a group
abbrev pub outbound_in : ℕ → List Fleet → List Fleet
outbound_in group fleets = filter (λ fleet. fleet.outbound && fleet.group == group) fleets

-- those of them that fly to a place
abbrev pub companions : Coord → ℕ → List Fleet → List Fleet
companions at group fleets = filter (λ fleet. fleet.outbound && same_coord fleet.target at && fleet.group == group) fleets

-- those of them that attack it
abbrev pub raiders : Coord → ℕ → List Fleet → List Fleet
raiders at group fleets = filter (λ fleet. is_attack fleet.mission) (companions at group fleets)

-- A raid: the number of a group, the planet that it attacks, the second at which it arrives, and its fleets.
pub record Raid : Type 0 where
  pub group : ℕ
  pub target : Coord
  pub second : ℕ
  pub fleets : List Fleet

-- the raid of one of its fleets, among those that belong to the planet
abbrev pub raid_of : List Fleet → Fleet → Raid
raid_of fleets one = record { group = one.group; target = one.target; second = one.second; fleets = raiders one.target one.group fleets }
