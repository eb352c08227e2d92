-- What is counted of fleets in one pass over them.
use Rattle.std.specs.Prelude.{◌≡◌, ◌<◌, ◌≤◌, ℕ, List, [], All, AllPairs, Option, None, Some, length, unwrap_or}
use Rattle.std.specs.BTreeMap.{BTreeMap, get}
use Rattle.std.specs.Ordering.{nat_cmp}
use Rattle.std.specs.declared.cmp.Ordering.{Ordering}
use Rattle.base_bytes.specs.declared.group_rules.Group.{Group}
use Rattle.base_ids.specs.declared.player.Player.{Player}
use Rattle.tick_model.specs.Lines.{own_fleets}
use Rattle.tick_model.specs.Raids.{outbound_in}
use Rattle.tick_model.specs.Rules.{ArriveTogether}
use Rattle.tick_model.specs.Universe.{Fleet}
use Rattle.tick_model.specs.declared.codes.TheConstants.{MOST_IN_GROUP}

-- the order of players
abbrev pub player_order : Player → Player → Ordering
player_order a b = nat_cmp a.k b.k

-- for each player it is counted how many of the fleets are his
abbrev pub AreCounted : BTreeMap Player ℕ → List Fleet → Type 0
AreCounted counts fleets = (player : Player) → unwrap_or (get player_order counts player) 0 ≡ length (own_fleets player fleets)

-- the fleets that fly out in one group arrive together, and are no more than a group may have
abbrev pub FitInGroups : List Fleet → Type 0
FitInGroups fleets = AllPairs ArriveTogether fleets × ((group : ℕ) → length (outbound_in group fleets) ≤ MOST_IN_GROUP)

-- a fleet can join these: they arrive where it does and when it does, and there is room for one more
pub record CanJoin (fleet : Fleet) (fleets : List Fleet) : Type 0 where
  pub together : All (λ other. (other.target ≡ fleet.target) × (other.second ≡ fleet.second)) fleets
  pub room : length fleets < MOST_IN_GROUP

-- These are the fleets of a group: as many as it counts, at least one and no more than a group may have, and all arrive where and when
-- it says.
pub record AreOf (group : Group) (fleets : List Fleet) : Type 0 where
  pub counted : group.count ≡ length fleets
  pub some : 1 ≤ length fleets
  pub few : length fleets ≤ MOST_IN_GROUP
  pub together : All (λ fleet. (fleet.target ≡ group.target) × (fleet.second ≡ group.second)) fleets

-- what is noted of the group of these fleets: nothing, if there are none
abbrev pub IsNoted : Option Group → List Fleet → Type 0
IsNoted None fleets = fleets ≡ []
IsNoted (Some group) fleets = AreOf group fleets

-- each group of fleets that fly out is noted
abbrev pub AreNoted : BTreeMap ℕ Group → List Fleet → Type 0
AreNoted groups fleets = (group : ℕ) → IsNoted (get nat_cmp groups group) (outbound_in group fleets)
