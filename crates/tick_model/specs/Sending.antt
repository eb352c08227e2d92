-- How a fleet is sent and recalled. Rules: docs/RULES.md, "Fleets" and "Refusals".
use Rattle.std.specs.Prelude.{ℕ, ◌+◌, List, [], ◌∷◌, Bool, true, false, not, nat_le, nat_lt, ◌==◌, ◌&&◌, Option, None, Some, length, slice_index, if◌then◌else◌}
use Rattle.base_ids.specs.Cells.{same_cell, same_player}
use Rattle.base_ids.specs.declared.cell_id.CellId.{CellId}
use Rattle.base_ids.specs.declared.cell_id.CellId.TheVariants.{Planet}
use Rattle.base_ids.specs.declared.coord.Coord.{Coord}
use Rattle.base_ids.specs.declared.player.Player.{Player}
use Rattle.catalog.specs.Costs.{Cost}
use Rattle.catalog.specs.Kinds.{place_in}
use Rattle.catalog.specs.declared.classes.TheConstants.{UNIT_KINDS}
use Rattle.catalog.specs.declared.kind.Kind.TheVariants.{Recycler}
use Rattle.catalog.specs.declared.mission.Mission.{Mission}
use Rattle.catalog.specs.declared.mission.Mission.TheVariants.{Transport, Deploy, Harvest, Attack}
use Rattle.flight.specs.Distances.{distance_of}
use Rattle.flight.specs.Freight.{capacity_of, flight_fuel}
use Rattle.flight.specs.Speeds.{fleet_speed}
use Rattle.flight.specs.Times.{flight_seconds}
use Rattle.reply_text.specs.declared.units.Units.{Units}
use Rattle.tick_model.specs.declared.codes.TheConstants.{NO_FLEET, GROUP_FULL, MOST_IN_GROUP, NO_SHIPS, BAD_MISSION, NO_SLOT, TOO_LATE, NO_ROOM, POOR}
use Rattle.tick_model.specs.Buildings.{can_pay, paid}
use Rattle.tick_model.specs.Flights.{left_by}
use Rattle.tick_model.specs.Lines.{slots_of}
use Rattle.tick_model.specs.Refusals.{first_refusal}
use Rattle.tick_model.specs.Universe.{AccountFields, Fleet, Own, of_planet, PlanetFields}
use Rattle.tick_model.specs.Views.{belongs}

-- what a fleet is sent for: from where, to where, with which mission, at which speed setting, with which ships and which cargo
pub record Errand : Type 0 where
  pub from : Coord
  pub to : Coord
  pub mission : Mission
  pub setting : ℕ
  pub ships : List ℕ
  pub cargo : Units

-- the fleet of a player that has a number
abbrev pub fleet_of : Player → ℕ → List Fleet → Option Fleet
fleet_of player number [] = None
fleet_of player number (fleet ∷ later) = if fleet.number == number && same_player fleet.owner player then Some fleet else fleet_of player number later

-- a cell is one of those of a fleet that flies out
abbrev pub belongs_out : CellId → Option Fleet → Bool
belongs_out cell None = false
belongs_out cell (Some fleet) = fleet.outbound && belongs cell fleet

-- the deuterium that the flight burns, by the levels of the owner's technologies
unfoldable pub fuel_of : AccountFields → Errand → ℕ
fuel_of account errand = flight_fuel account.techs.n errand.ships (distance_of errand.from errand.to) errand.setting

-- the seconds that it takes in a universe of this speed
unfoldable pub seconds_to : ℕ → AccountFields → Errand → ℕ
seconds_to speed account errand =
    flight_seconds (distance_of errand.from errand.to) (fleet_speed account.techs.n errand.ships) errand.setting speed

-- what the origin gives: the cargo, and the fuel
unfoldable pub load_of : AccountFields → Errand → Cost
load_of account errand =
    record { metal = errand.cargo.metal; crystal = errand.cargo.crystal; deuterium = errand.cargo.deuterium + fuel_of account errand }

-- a planet has so many ships of each kind
abbrev pub has_ships : List ℕ → List ℕ → Bool
has_ships counts [] = true
has_ships [] (ship ∷ ships) = false
has_ships (count ∷ counts) (ship ∷ ships) = nat_le ship count && has_ships counts ships

-- a mission suits who owns the target, and the ships that are sent
abbrev pub suits : Mission → Bool → List ℕ → Bool
suits Transport is_own ships = true
suits Deploy is_own ships = is_own
suits Harvest is_own ships = nat_le 1 (slice_index ships (place_in UNIT_KINDS Recycler))
suits Attack is_own ships = not is_own

-- a player can send a fleet on this errand, by what the target has of its own
abbrev pub can_go : Player → Errand → Own → Bool
can_go player errand (of_planet planet) =
    not (same_cell (Planet errand.from) (Planet errand.to)) && suits errand.mission (same_player planet.owner player) errand.ships
can_go player errand _ = false

-- cargo and fuel fit into the ships
unfoldable pub has_room : AccountFields → Errand → Bool
has_room account errand =
    let load = load_of account errand in
    nat_le (load.metal + load.crystal + load.deuterium) (capacity_of errand.ships)

-- `send A B MISSION SETTING SHIPS CARGO` from the caller's own planet, by a caller who has so many fleets
unfoldable pub send_refusal : Player → AccountFields → ℕ → PlanetFields → Own → Errand → ℕ
send_refusal player account fleets planet target errand =
    first_refusal (
    record { code = NO_SHIPS; holds = not (has_ships planet.units errand.ships) }
    ∷ record { code = BAD_MISSION; holds = not (can_go player errand target) }
    ∷ record { code = NO_SLOT; holds = nat_le (slots_of account) fleets }
    ∷ record { code = NO_ROOM; holds = not (has_room account errand) }
    ∷ record { code = POOR; holds = not (can_pay planet.stock (load_of account errand)) }
    ∷ []
    )

-- the second at which a raid arrives
abbrev pub arrival_of : List Fleet → ℕ
arrival_of [] = 0
arrival_of (fleet ∷ fleets) = fleet.second

-- a fleet that leaves at a moment would arrive later than a raid
abbrev pub is_late : ℕ → ℕ → AccountFields → Errand → List Fleet → Bool
is_late speed moment account errand raid = nat_lt (arrival_of raid) (moment + seconds_to speed account errand)

-- `join GROUP A B SETTING SHIPS CARGO` at a moment, from the caller's own planet, by a caller who has so many fleets: these
-- fleets of the group fly to B to attack it, and all in all there are so many that fly there in it
unfoldable pub join_refusal : ℕ → ℕ → Player → AccountFields → ℕ → PlanetFields → Own → Errand → List Fleet → ℕ → ℕ
join_refusal speed moment player account fleets planet target errand raid companions =
    first_refusal (
    record { code = NO_FLEET; holds = nat_le (length raid) 0 }
    ∷ record { code = GROUP_FULL; holds = nat_le MOST_IN_GROUP companions }
    ∷ record { code = NO_SHIPS; holds = not (has_ships planet.units errand.ships) }
    ∷ record { code = BAD_MISSION; holds = not (can_go player errand target) }
    ∷ record { code = NO_SLOT; holds = nat_le (slots_of account) fleets }
    ∷ record { code = TOO_LATE; holds = is_late speed moment account errand raid }
    ∷ record { code = NO_ROOM; holds = not (has_room account errand) }
    ∷ record { code = POOR; holds = not (can_pay planet.stock (load_of account errand)) }
    ∷ []
    )

-- the planet that a fleet has left
unfoldable pub departed : AccountFields → PlanetFields → Errand → PlanetFields
departed account planet errand =
    record planet { stock = paid planet.stock (load_of account errand); units = left_by planet.units errand.ships }

-- the fleet that leaves it at a moment
abbrev pub launched : ℕ → ℕ → ℕ → Player → AccountFields → Player → Errand → Fleet
launched speed number moment player account target_owner errand =
    record {
      number = number;
      group = number;
      owner = player;
      mission = errand.mission;
      origin = errand.from;
      target = errand.to;
      target_owner = target_owner;
      outbound = true;
      setting = errand.setting;
      launch = moment;
      second = moment + seconds_to speed account errand;
      cargo = errand.cargo;
      ships = errand.ships;
    }

-- a fleet that flies in a group, and arrives with it
abbrev pub with_group : ℕ → ℕ → Fleet → Fleet
with_group group second fleet = record fleet { group = group; second = second }
