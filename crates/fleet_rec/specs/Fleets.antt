-- What becomes of the fleets of a cell. Rules: docs/RULES.md, "Events", "Fleets" and "Attacks".
use Rattle.std.specs.Prelude.{◌≡◌, ℕ, ◌==◌, ◌&&◌, ◌||◌, List, [], ◌∷◌, Bool, true, not, nat_le, Option, None, Some, filter, filter_map, if◌then◌else◌}
use Rattle.std.specs.List.{find, list_any}
use Rattle.base_ids.specs.Cells.{same_cell, same_coord}
use Rattle.base_ids.specs.Order.{EventKey, key_before}
use Rattle.base_ids.specs.declared.coord.Coord.{Coord}
use Rattle.base_ids.specs.declared.cell_id.CellId.TheVariants.{Planet}
use Rattle.fleet_rec.specs.Fleet.{numbered}
use Rattle.reply_text.specs.declared.units.Units.{Units}
use Rattle.tick_model.specs.Battles.{back_with, comes_back}
use Rattle.tick_model.specs.Events.{landing_step}
use Rattle.tick_model.specs.Flights.{landing, recalled_at, turned, turns}
use Rattle.tick_model.specs.Raids.{attacks, is_attack}
use Rattle.tick_model.specs.Rules.{IsIn, same_flight}
use Rattle.tick_model.specs.Universe.{Fleet}

-- the fleet of a number becomes something, or goes
abbrev pub became_at : ℕ → (Fleet → Option Fleet) → Fleet → Option Fleet
became_at number became fleet = if fleet.number == number then became fleet else Some fleet

-- the fleet of a number has landed: it turns back with a cargo, or goes
abbrev pub after_landing : ℕ → Option Units → List Fleet → List Fleet
after_landing number back fleets = filter_map (became_at number (turns back)) fleets

-- the fleet of a number is recalled at a moment, and turns back with what it has
abbrev pub recalls_at : ℕ → Fleet → Option Fleet
recalls_at moment flown = Some (turned flown (recalled_at flown moment) flown.cargo)

abbrev pub after_recall : ℕ → ℕ → List Fleet → List Fleet
after_recall number moment fleets = filter_map (became_at number (recalls_at moment)) fleets

-- what orders that to which a fleet comes: it fights with its group, or lands
abbrev pub coming_key : Fleet → EventKey
coming_key fleet =
    if attacks fleet then record { second = fleet.second; number = fleet.group; step = 5 } else record { second = fleet.second; number = fleet.number; step = landing_step fleet }

-- the fleets that come to a place by a second, among those that belong to it
abbrev pub coming_by : Coord → ℕ → List Fleet → List Fleet
coming_by at second fleets = filter (λ fleet. same_cell (Planet (landing fleet)) (Planet at) && nat_le fleet.second second) fleets

-- the first of two fleets
abbrev pub sooner_fleet : Fleet → Option Fleet → Fleet
sooner_fleet fleet None = fleet
sooner_fleet fleet (Some other) = if key_before (coming_key other) (coming_key fleet) then other else fleet

-- the fleet that comes first
abbrev pub first_fleet : List Fleet → Option Fleet
first_fleet [] = None
first_fleet (fleet ∷ fleets) = Some (sooner_fleet fleet (first_fleet fleets))

-- what becomes of a fleet that has fought, if these fought and this is left of them
abbrev pub became_in : List Fleet → List Fleet → Fleet → Option Fleet
became_in fought left fleet = if list_any (same_flight fleet) fought then comes_back left fleet else Some fleet

abbrev pub after_battle : List Fleet → List Fleet → List Fleet → List Fleet
after_battle fought left fleets = filter_map (became_in fought left) fleets

-- the fleets of a number fly out
abbrev pub AreOutbound : ℕ → List Fleet → Type 0
AreOutbound number fleets = (fleet : Fleet) → IsIn fleet fleets → fleet.number ≡ number → fleet.outbound ≡ true

-- the last fleet gets its number
abbrev pub last_numbered : ℕ → List Fleet → List Fleet
last_numbered number [] = []
last_numbered number (fleet ∷ []) = numbered number fleet ∷ []
last_numbered number (fleet ∷ next ∷ later) = fleet ∷ last_numbered number (next ∷ later)

-- a fleet bears this number
abbrev pub bears : ℕ → Fleet → Bool
bears number fleet = number == fleet.number

-- what turns back of a fleet, if anything does, and else the fleet
abbrev pub back_or : Fleet → Option Fleet → Fleet
back_or fleet None = fleet
back_or fleet (Some left) = back_with fleet left

-- a fleet, or if it has fought and something is left of it, what turns back
abbrev pub turned_if : List Fleet → List Fleet → Fleet → Fleet
turned_if fought left fleet = if list_any (same_flight fleet) fought then back_or fleet (find (same_flight fleet) left) else fleet

-- a fleet has not fought, or something is left of it
abbrev pub is_left : List Fleet → List Fleet → Fleet → Bool
is_left fought left fleet = not (list_any (same_flight fleet) fought) || list_any (same_flight fleet) left

-- the fleets that have fought fly out
abbrev pub MayFight : List Fleet → List Fleet → Type 0
MayFight fought fleets = (fleet : Fleet) → IsIn fleet fleets → list_any (same_flight fleet) fought ≡ true → fleet.outbound ≡ true

-- a fleet flies out to attack a place in a group
abbrev pub is_raider : Coord → ℕ → Fleet → Bool
is_raider at group fleet = fleet.outbound && same_coord fleet.target at && fleet.group == group && is_attack fleet.mission

-- the first of some fleets
abbrev pub first_of : List Fleet → Option Fleet
first_of [] = None
first_of (fleet ∷ fleets) = Some fleet
