-- What a request makes of the parts of a universe that it asks for. Rules: docs/RULES.md, "Requests".
use Rattle.std.specs.Prelude.{◌≡◌, ℕ, ◌+◌, ◌==◌, ◌++◌, List, [], ◌∷◌, Option, None, Some, IfSome, filter, filter_map, if◌then◌else◌}
use Rattle.account_cell.specs.Account.{account_fields, account_queue}
use Rattle.account_cell.specs.declared.account.Account.{Account}
use Rattle.base_ids.specs.Cells.{same_coord, same_player}
use Rattle.base_ids.specs.declared.cell_id.CellId.{CellId}
use Rattle.base_ids.specs.declared.cell_id.CellId.TheVariants.{Account as AccountId, Planet as PlanetId}
use Rattle.base_ids.specs.declared.coord.Coord.{Coord}
use Rattle.base_ids.specs.declared.player.Player.{Player}
use Rattle.base_ids.specs.declared.system.System.{System}
use Rattle.orders.specs.declared.parts.Acted.{Acted}
use Rattle.orders.specs.declared.parts.Parts.{Parts}
use Rattle.orders.specs.declared.parts.SystemPlanet.{SystemPlanet}
use Rattle.planet_cell.specs.Planet.{fields_of, queue_of}
use Rattle.planet_cell.specs.declared.planet.Planet.{Planet}
use Rattle.reply_text.specs.FleetLines.{at_line, fleet_line}
use Rattle.request_text.specs.declared.request.Request.{Request}
use Rattle.request_text.specs.declared.request.Request.TheVariants.{Planet as PlanetOf, System as SystemOf, Build, Research, Yard as YardOf, Set, Send, Join, Recall}
use Rattle.tick_model.specs.Changes.{Change}
use Rattle.tick_model.specs.Lines.{flight_of}
use Rattle.tick_model.specs.Requests.{Outcome, Sight, in_system, outcome, own_seen, queue_seen}
use Rattle.tick_model.specs.Sending.{fleet_of}
use Rattle.tick_model.specs.Universe.{Fleet, Item, Own, QueueClass, of_account, of_planet}
use Rattle.tick_model.specs.Views.{View, belongs, nothing_seen}
use Rattle.tick_model.specs.declared.rules.Rules.{Rules}

-- what is seen of the cell of an account, whether the account is there or not, and of the fleets that belong to it
abbrev pub account_seen : Option Account → List Fleet → View
account_seen None fleets = nothing_seen
account_seen (Some account) fleets =
    record { own = of_account (account_fields account); queue = account_queue account; fleets = fleets; planets = account.planets.items; units = account.units }

-- the same of a planet
abbrev pub planet_seen : Option Planet → List Fleet → View
planet_seen None fleets = nothing_seen
planet_seen (Some planet) fleets = record { own = of_planet (fields_of planet); queue = queue_of planet; fleets = fleets; planets = []; units = 0 }

-- a fleet, if it flies out
abbrev pub outbound : Option Fleet → Option Fleet
outbound None = None
outbound (Some fleet) = if fleet.outbound then Some fleet else None

-- the origin of a fleet, if there is one
abbrev pub origin_of : Option Fleet → Option Coord
origin_of None = None
origin_of (Some fleet) = Some fleet.origin

-- a place, if it isn't the first one
abbrev pub elsewhere : Coord → Coord → Option Coord
elsewhere from to = if same_coord from to then None else Some to

-- the target of a fleet, if there is one
abbrev pub target_of : Option Fleet → Option Coord
target_of None = None
target_of (Some fleet) = elsewhere fleet.origin fleet.target

-- the place that a player's request names, or the origin of the player's fleet that it calls back
abbrev pub from_place : Player → List Fleet → Request → Option Coord
from_place player fleets (PlanetOf at) = Some at
from_place player fleets (Build at building) = Some at
from_place player fleets (Research at technology) = Some at
from_place player fleets (YardOf at unit count) = Some at
from_place player fleets (Set at work tenths) = Some at
from_place player fleets (Send from to mission setting ships cargo) = Some from
from_place player fleets (Join group from to setting ships cargo) = Some from
from_place player fleets (Recall number) = origin_of (outbound (fleet_of player number.f fleets))
from_place player fleets _ = None

-- the place to which it sends a fleet, or the target of the fleet that it calls back, if that is another place
abbrev pub to_place : Player → List Fleet → Request → Option Coord
to_place player fleets (Send from to mission setting ships cargo) = elsewhere from to
to_place player fleets (Join group from to setting ships cargo) = elsewhere from to
to_place player fleets (Recall number) = target_of (outbound (fleet_of player number.f fleets))
to_place player fleets _ = None

-- the system that it names
abbrev pub system_named : Request → Option System
system_named (SystemOf system) = Some system
system_named _ = None

-- what a system shows of a cell, if it is a planet
abbrev pub planet_shown : CellId → Own → Option SystemPlanet
planet_shown (PlanetId at) (of_planet planet) = Some (record { at = at; owner = planet.owner; debris = planet.debris })
planet_shown _ own = None

-- the line of a fleet, if it is the player's
abbrev pub own_line : Player → Fleet → List ℕ
own_line player fleet = if same_player fleet.owner player then fleet_line (flight_of fleet) else []

-- a line for each of some planets of a system
abbrev pub system_text : List SystemPlanet → List ℕ
system_text [] = []
system_text (planet ∷ later) = at_line planet.at planet.owner planet.debris.metal planet.debris.crystal ++ system_text later

-- the planets of a system, in the order of the directory
abbrev pub planets_in : System → Sight → List SystemPlanet
planets_in system sight = filter_map (λ cell. if in_system system cell then planet_shown cell (own_seen sight cell) else None) sight.cells

-- all of these fleets belong to a cell
abbrev pub AllBelong : CellId → List Fleet → Type 0
AllBelong cell fleets = filter (belongs cell) fleets ≡ fleets

-- A place is seen as the planet that stands there, or as none, with the fleets that belong to it.
pub record IsSeenAs (sight : Sight) (at : Coord) (planet : Option Planet) (fleets : List Fleet) : Type 0 where
  pub place : IfSome planet (λ x. x.at ≡ at)
  pub seen : sight.seen (PlanetId at) ≡ planet_seen planet fleets

-- A player's request is acted on at a moment, and what it goes by is what the parts show. Its number isn't drawn yet.
pub record AreShown (sight : Sight) (player : Player) (rules : Rules) (moment : ℕ) (req : Request) (parts : Parts) : Type 0 where
  pub rules_are : sight.rules ≡ rules
  pub moment_is : sight.moment ≡ moment
  pub number_is : sight.number ≡ 0
  pub belong : (cell : CellId) → AllBelong cell (sight.seen cell).fleets
  pub whose : IfSome parts.caller (λ account. account.player ≡ player)
  pub caller : sight.seen (AccountId player) ≡ account_seen parts.caller parts.fleets.caller
  pub from : IfSome (from_place player parts.fleets.caller req) (λ at. IsSeenAs sight at parts.from parts.fleets.from)
  pub to : IfSome (to_place player parts.fleets.caller req) (λ at. IsSeenAs sight at parts.to parts.fleets.to)
  pub to_owner : IfSome parts.to_owner (λ account. AllBelong (AccountId account.player) parts.fleets.to_owner)
  pub seen : IfSome (system_named req) (λ system. parts.seen.items ≡ planets_in system sight)

-- a queue after a change
abbrev pub queue_after : Sight → Change → CellId → QueueClass → List Item
queue_after sight change cell class = if change.requeued cell class then change.items else queue_seen sight cell class

-- the fleets that belong to a cell after a change: those that stay, as they have become, and those that are sent
abbrev pub fleets_after : Change → CellId → List Fleet → List Fleet
fleets_after change cell fleets = filter (belongs cell) (filter_map change.fleet fleets) ++ filter (belongs cell) change.sent

-- what is seen of a cell after a change, but for how many units an account has
abbrev pub seen_after : Sight → Change → CellId → View
seen_after sight change cell =
    record (sight.seen cell) { own = change.own cell; queue = queue_after sight change cell; fleets = fleets_after change cell (sight.seen cell).fleets }

-- how many units a request orders
abbrev pub units_ordered : Request → ℕ
units_ordered (YardOf at unit count) = count.n
units_ordered _ = 0

-- how many units an account has after a request
abbrev pub units_after : ℕ → Request → Outcome → ℕ
units_after units req came = units + (if came.answer.code == 0 then units_ordered req else 0)

-- A place is left as this planet, or as none, with these fleets.
pub record IsLeftAs (sight : Sight) (change : Change) (at : Coord) (planet : Option Planet) (fleets : List Fleet) : Type 0 where
  pub place : IfSome planet (λ x. x.at ≡ at)
  pub seen : planet_seen planet fleets ≡ seen_after sight change (PlanetId at)

-- The code and the lines are those of an outcome, and the parts show what its change makes of what they showed: of the caller's
-- account and of the places that are named; and of another account, which stays, it makes the fleets that belong to it.
pub record Comes (sight : Sight) (player : Player) (req : Request) (came : Outcome) (old new : Parts) (acted : Acted) : Type 0 where
  pub code : acted.code ≡ came.answer.code
  pub body : acted.body ≡ came.answer.body
  pub whose : IfSome new.caller (λ account. account.player ≡ player)
  pub caller : account_seen new.caller new.fleets.caller ≡ record (seen_after sight came.change (AccountId player)) { units = units_after (sight.seen (AccountId player)).units req came }
  pub from : IfSome (from_place player old.fleets.caller req) (λ at. IsLeftAs sight came.change at new.from new.fleets.from)
  pub to : IfSome (to_place player old.fleets.caller req) (λ at. IsLeftAs sight came.change at new.to new.fleets.to)
  pub to_owner : new.to_owner ≡ old.to_owner
  pub linked : IfSome old.to_owner (λ account. new.fleets.to_owner ≡ fleets_after came.change (AccountId account.player) old.fleets.to_owner)

-- Whatever a player's request goes by, if the parts show it, the outcome is that of the request.
abbrev pub Acts : Rules → ℕ → Request → Parts → Parts → Acted → Type 0
Acts rules moment req old new acted =
    (sight : Sight) (player : Player) → AreShown sight player rules moment req old → Comes sight player req (outcome sight player req) old new acted

-- The parts show the same as before.
pub record AreKept (old new : Parts) : Type 0 where
  pub caller : account_seen new.caller new.fleets.caller ≡ account_seen old.caller old.fleets.caller
  pub from : planet_seen new.from new.fleets.from ≡ planet_seen old.from old.fleets.from
  pub to : planet_seen new.to new.fleets.to ≡ planet_seen old.to old.fleets.to
  pub to_owner : account_seen new.to_owner new.fleets.to_owner ≡ account_seen old.to_owner old.fleets.to_owner
