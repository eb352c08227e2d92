-- The parts that a request asks for, taken from cells that are held. Rule: docs/RULES.md, "Requests".
use Rattle.std.specs.Prelude.{◌≡◌, ℕ, List, [], Option, None, Some, IfSome, MatchOption, if◌then◌else◌}
use Rattle.std.specs.List.{filter_map}
use Rattle.account_cell.specs.declared.account.Account.{Account}
use Rattle.base_ids.specs.Cells.{same_player}
use Rattle.base_ids.specs.declared.cell_id.CellId.{CellId}
use Rattle.base_ids.specs.declared.cell_id.CellId.TheVariants.{Account as AccountId, Planet as PlanetId}
use Rattle.base_ids.specs.declared.coord.Coord.{Coord}
use Rattle.base_ids.specs.declared.player.Player.{Player}
use Rattle.base_ids.specs.declared.system.System.{System}
use Rattle.happenings.specs.Held.{IsEqual, Puts, account_stand, held_at, holds, planet_stand}
use Rattle.happenings.specs.Queues.{seen_held}
use Rattle.happenings.specs.declared.held.Held.{Held}
use Rattle.orders.specs.Acting.{account_seen, from_place, planet_seen, planet_shown, system_named, to_place}
use Rattle.orders.specs.declared.parts.Parts.{Parts}
use Rattle.orders.specs.declared.parts.SystemPlanet.{SystemPlanet}
use Rattle.planet_cell.specs.declared.planet.Planet.{Planet}
use Rattle.request_text.specs.declared.request.Request.{Request}
use Rattle.tick_model.specs.Requests.{in_system}
use Rattle.tick_model.specs.Universe.{Fleet}
use Rattle.tick_model.specs.Views.{View, nothing_seen}

-- what a player's request is shown of the cells that are held: nothing if the player's account isn't among them
abbrev pub seen_by : Held → Player → CellId → View
seen_by held player cell = if holds held (AccountId player) then seen_held held cell else nothing_seen

-- A place is seen as this planet, or as none, with the fleets that belong to it.
pub record IsTaken (there : View) (at : Coord) (planet : Option Planet) (fleets : List Fleet) : Type 0 where
  pub place : IfSome planet (λ x. x.at ≡ at)
  pub seen : there ≡ planet_seen planet fleets

-- the same of a player's account
pub record IsTakenOf (there : View) (player : Player) (account : Option Account) (fleets : List Fleet) : Type 0 where
  pub whose : IfSome account (λ x. x.player ≡ player)
  pub seen : there ≡ account_seen account fleets

-- who owns a planet, if that isn't the player
abbrev pub other_owner : Player → Option Planet → Option Player
other_owner player None = None
other_owner player (Some planet) = if same_player planet.owner player then None else Some planet.owner

-- the planets of a system, in the order of the directory
abbrev pub planets_seen : System → List CellId → (CellId → View) → List SystemPlanet
planets_seen system cells there = filter_map (λ cell. if in_system system cell then planet_shown cell (there cell).own else None) cells

-- The parts are what a player's request is shown: the caller's account; the planets at the places that it names, or between which the
-- fleet flies that it calls back; the account of the owner of the second, if that isn't the caller; and the planets of the system
-- that it names.
pub record AreTaken (cells : List CellId) (there : CellId → View) (player : Player) (req : Request) (parts : Parts) : Type 0 where
  pub caller : IsTakenOf (there (AccountId player)) player parts.caller parts.fleets.caller
  pub from : MatchOption (from_place player parts.fleets.caller req) (parts.from ≡ None) (λ at. IsTaken (there (PlanetId at)) at parts.from parts.fleets.from)
  pub to : MatchOption (to_place player parts.fleets.caller req) (parts.to ≡ None) (λ at. IsTaken (there (PlanetId at)) at parts.to parts.fleets.to)
  pub to_owner : MatchOption (other_owner player parts.to) (parts.to_owner ≡ None) (λ owner. IsTakenOf (there (AccountId owner)) owner parts.to_owner parts.fleets.to_owner)
  pub seen : IfSome (system_named req) (λ system. parts.seen.items ≡ planets_seen system cells there)

-- an account, if there is one, is held at a moment with the fleets that belong to it, and all other cells as before
abbrev pub PutsAccount : Option Account → List Fleet → ℕ → Held → Held → Type 0
PutsAccount None fleets moment old new = IsEqual old new
PutsAccount (Some account) fleets moment old new = Puts old new (AccountId account.player) (record { second = moment; seen = account_seen (Some account) fleets })

-- so is a planet, if a place was named and there is one
abbrev pub PutsPlanet : Option Coord → Option Planet → List Fleet → ℕ → Held → Held → Type 0
PutsPlanet (Some at) (Some planet) fleets moment old new = Puts old new (PlanetId planet.at) (record { second = moment; seen = planet_seen (Some planet) fleets })
PutsPlanet _ _ fleets moment old new = IsEqual old new

-- All parts are held at a moment: the caller's account, the planets at the two places, if they are named, and the other account.
pub record PutsParts (from to : Option Coord) (parts : Parts) (moment : ℕ) (old new : Held) : Type 0 where
  pub one : Held
  pub two : Held
  pub three : Held
  pub puts_caller : PutsAccount parts.caller parts.fleets.caller moment old one
  pub puts_from : PutsPlanet from parts.from parts.fleets.from moment one two
  pub puts_to : PutsPlanet to parts.to parts.fleets.to moment two three
  pub puts_to_owner : PutsAccount parts.to_owner parts.fleets.to_owner moment three new
