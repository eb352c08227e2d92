-- What stands in the columns of an entry's bytes, request by request. What a request has no use for is zero. Rule:
-- docs/FORMATS.md, "Entries".
use Rattle.std.specs.Prelude.{ℕ, List, replicate}
use Rattle.base_ids.specs.declared.coord.Coord.{Coord}
use Rattle.base_ids.specs.declared.system.System.{System as SystemId}
use Rattle.catalog.specs.Kinds.{kind_number}
use Rattle.catalog.specs.Missions.{mission_number}
use Rattle.records.specs.declared.fields.Place.{Place}
use Rattle.records.specs.declared.fields.Order.{Order}
use Rattle.records.specs.declared.fields.Load.{Load}
use Rattle.request_text.specs.declared.request.Request.{Request}
use Rattle.request_text.specs.declared.request.Request.TheVariants.{Planet, Account, Fleets, System, Build, Research, Yard, Set, Send, Join, Recall}

-- the place of a planet
abbrev pub place_of : Coord → Place
place_of at = record { g = at.g; s = at.s; p = at.p }

-- the place of a system
abbrev pub place_of_system : SystemId → Place
place_of_system at = record { g = at.g; s = at.s; p = 0 }

-- the place of nothing
abbrev pub no_place : Place
no_place = record { g = 0; s = 0; p = 0 }

-- the planet that a request names first, or a system, with position 0
abbrev pub origin_of : Request → Place
origin_of (Planet at) = place_of at
origin_of Account = no_place
origin_of Fleets = no_place
origin_of (System at) = place_of_system at
origin_of (Build at building) = place_of at
origin_of (Research at technology) = place_of at
origin_of (Yard at unit count) = place_of at
origin_of (Set at work tenths) = place_of at
origin_of (Send from to mission setting ships cargo) = place_of from
origin_of (Join fleet from to setting ships cargo) = place_of from
origin_of (Recall fleet) = no_place

-- the target of a fleet
abbrev pub target_of : Request → Place
target_of (Send from to mission setting ships cargo) = place_of to
target_of (Join fleet from to setting ships cargo) = place_of to
target_of _ = no_place

-- the number of a kind
abbrev pub kind_of : Request → ℕ
kind_of (Build at building) = kind_number building.kind
kind_of (Research at technology) = kind_number technology.kind
kind_of (Yard at unit count) = kind_number unit.kind
kind_of (Set at work tenths) = kind_number work.kind
kind_of _ = 0

abbrev pub mission_of : Request → ℕ
mission_of (Send from to mission setting ships cargo) = mission_number mission
mission_of _ = 0

-- the speed setting of a fleet, or the tenths of a work
abbrev pub setting_of : Request → ℕ
setting_of (Set at work tenths) = tenths.n
setting_of (Send from to mission setting ships cargo) = setting.p
setting_of (Join fleet from to setting ships cargo) = setting.p
setting_of _ = 0

abbrev pub count_of : Request → ℕ
count_of (Yard at unit count) = count.n
count_of _ = 0

-- the group that a fleet joins, or the fleet that turns back
abbrev pub fleet_of : Request → ℕ
fleet_of (Join fleet from to setting ships cargo) = fleet.f
fleet_of (Recall fleet) = fleet.f
fleet_of _ = 0

abbrev pub metal_of : Request → ℕ
metal_of (Send from to mission setting ships cargo) = cargo.m
metal_of (Join fleet from to setting ships cargo) = cargo.m
metal_of _ = 0

abbrev pub crystal_of : Request → ℕ
crystal_of (Send from to mission setting ships cargo) = cargo.c
crystal_of (Join fleet from to setting ships cargo) = cargo.c
crystal_of _ = 0

abbrev pub deuterium_of : Request → ℕ
deuterium_of (Send from to mission setting ships cargo) = cargo.d
deuterium_of (Join fleet from to setting ships cargo) = cargo.d
deuterium_of _ = 0

-- a count for each kind of ship that flies
abbrev pub ships_of : Request → List ℕ
ships_of (Send from to mission setting ships cargo) = ships.n
ships_of (Join fleet from to setting ships cargo) = ships.n
ships_of _ = replicate 13 0

-- what is to be done
abbrev pub order_of : Request → Order
order_of req = record {
  from = origin_of req;
  to = target_of req;
  kind = kind_of req;
  mission = mission_of req;
  setting = setting_of req;
  count = count_of req;
  fleet = fleet_of req;
}

-- the cargo and the ships of a fleet
abbrev pub load_of : Request → Load
load_of req = record { metal = metal_of req; crystal = crystal_of req; deuterium = deuterium_of req; ships = ships_of req }
