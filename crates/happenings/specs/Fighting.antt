-- A battle among cells that are held. Rules: docs/RULES.md, "Events" and "Attacks".
use Rattle.std.specs.Prelude.{◌≡◌, All, IsTrue, Bool, ◌||◌, ℕ, ◌+◌, ◌-◌, ◌*◌, map, ◌≤◌, true, List, filter, IfSome, Option, None, Some, length, option_map, sum, sum_by, if◌then◌else◌}
use Rattle.std.specs.List.{list_any}
use Rattle.std.specs.List.Sorted.{IsStrictlyIncreasing}
use Rattle.std.specs.BTreeMap.{get}
use Rattle.base_ids.specs.Cells.{same_cell, same_player}
use Rattle.base_ids.specs.declared.cell_id.CellId.{CellId}
use Rattle.base_ids.specs.declared.cell_id.CellId.TheVariants.{Account as AccountId, Planet as PlanetId}
use Rattle.base_ids.specs.declared.player.Player.{Player}
use Rattle.catalog.specs.declared.ships.TheConstants.{UNITS}
use Rattle.fleet_rec.specs.Fleets.{MayFight, after_battle, became_in}
use Rattle.prices.specs.Prices.{cost_in}
use Rattle.tick_model.specs.Battles.{Fought, fought}
use Rattle.tick_model.specs.Buildings.{can_pay, paid}
use Rattle.tick_model.specs.Changes.{owns}
use Rattle.tick_model.specs.Events.{Event, fights, footprint, ships_lost}
use Rattle.tick_model.specs.Raids.{Raid, attacks, raid_of}
use Rattle.tick_model.specs.Rules.{DoRise, IsIn}
use Rattle.tick_model.specs.Universe.{Fleet, Own, PlanetFields, of_planet}
use Rattle.tick_model.specs.Views.{View, belongs, ships_of}
use Rattle.tick_model.specs.declared.codes.TheConstants.{MOST_IN_GROUP}
use Rattle.tick_model.specs.declared.rules.Rules.{Rules}
use Rattle.happenings.specs.Applying.{fields_then, held_after, seen_then, stand_after}
use Rattle.happenings.specs.Gaining.{gained}
use Rattle.happenings.specs.Held.{Stand, account_stand, held_at, holds}
use Rattle.happenings.specs.Landings.{HaveOwnFleets, LandsIn}
use Rattle.happenings.specs.Orders.{place_order, player_order}
use Rattle.raids.specs.Leaving.{fleets_seen}
use Rattle.raids.specs.declared.aftermath.Raider.{Raider}
use Rattle.catalog.specs.declared.techs.Techs.{Techs}
use Rattle.happenings.specs.Queues.{seen_held}
use Rattle.happenings.specs.declared.combat.Battle.{Battle}
use Rattle.happenings.specs.declared.held.AccountCell.{AccountCell}
use Rattle.happenings.specs.declared.held.Held.{Held}
use Rattle.happenings.specs.declared.held.PlanetCell.{PlanetCell}

-- the raid of a fleet that attacks a planet that is held
abbrev pub raid_in : Held → Fleet → Raid
raid_in held one = raid_of (seen_held held (PlanetId one.target)).fleets one

-- how a cell stands once its copies of the fleets that fought have turned back, or are gone
abbrev pub fleets_fought : Battle → CellId → View → View
fleets_fought battle cell seen = record seen { fleets = filter (belongs cell) (after_battle battle.raid battle.after.fleets seen.fleets) }

-- how many units an account loses
abbrev pub account_losses : Battle → Player → List Fleet → ℕ
account_losses battle player fleets =
    ships_lost player (became_in battle.raid battle.after.fleets) fleets + (if same_player battle.owner player then battle.lost else 0)

-- an account after a battle
abbrev pub account_fought : Battle → Player → Stand → Stand
account_fought battle player stand =
    record {
      second = battle.second;
      seen = record (fleets_fought battle (AccountId player) stand.seen) { units = stand.seen.units - account_losses battle player stand.seen.fleets };
    }

-- An account can lose what it loses: it has so many units.
pub record CanLose (battle : Battle) (player : Player) (seen : View) : Type 0 where
  pub fight : MayFight battle.raid seen.fleets
  pub ships : sum_by (ships_of player) seen.fleets ≤ UNITS
  pub fewer : sum_by (ships_of player) (after_battle battle.raid battle.after.fleets seen.fleets) ≤ sum_by (ships_of player) seen.fleets
  pub losses : account_losses battle player seen.fleets ≤ seen.units

-- a planet has what the battle has left there
abbrev pub settled : Battle → PlanetFields → PlanetFields
settled battle planet = record planet { stock = paid planet.stock (cost_in battle.after.taken); debris = battle.after.debris; units = battle.after.units }

abbrev pub settled_own : Battle → Own → Own
settled_own battle (of_planet planet) = of_planet (settled battle planet)
settled_own battle own = own

-- if the battle was fought at the cell, it has what the battle has left there
abbrev pub own_fought : Battle → CellId → Own → Own
own_fought battle cell own = if same_cell (PlanetId battle.target) cell then settled_own battle own else own

abbrev pub stand_settled : Battle → CellId → Stand → Stand
stand_settled battle cell stand = record stand { seen = record stand.seen { own = own_fought battle cell stand.seen.own } }

-- a planet after a battle: it gained until then
abbrev pub planet_fought : Rules → Battle → CellId → Stand → Stand
planet_fought rules battle cell stand =
    let grown = gained rules battle.second stand in
    stand_settled battle cell (record grown { seen = fleets_fought battle cell grown.seen })

-- A planet can be left so: it can pay what is taken, and has no more units than before.
pub record CanSettle (battle : Battle) (planet : PlanetFields) : Type 0 where
  pub taken : IsTrue (can_pay planet.stock (cost_in battle.after.taken))
  pub units : sum battle.after.units ≤ sum planet.units

-- what comes of the battle of a fleet's group at a planet that is held
abbrev pub came_at : Rules → Held → Fleet → PlanetCell → Fought
came_at rules held one place =
    fought rules.seed (owns (seen_then rules (fights (raid_in held one)) held)) (raid_in held one) (fields_then rules one.second place)

-- The battle is that of a fleet's group among cells that are held, and leaves what comes of it.
pub record IsBattle (rules : Rules) (held : Held) (one : Fleet) (battle : Battle) : Type 0 where
  pub second : battle.second ≡ one.second
  pub target : battle.target ≡ one.target
  pub raid : battle.raid ≡ (raid_in held one).fleets
  pub place : PlanetCell
  pub found : get place_order held.planets one.target ≡ Some place
  pub fleets : (came_at rules held one place).fleets ≡ battle.after.fleets
  pub planet : (came_at rules held one place).planet ≡ settled battle (fields_then rules one.second place)
  pub settles : CanSettle battle (fields_then rules one.second place)
  pub owner : battle.owner ≡ (fields_then rules one.second place).owner
  pub lost : battle.lost ≡ sum (fields_then rules one.second place).units - sum battle.after.units

-- a battle needs a cell
abbrev pub touches : Battle → CellId → Bool
touches battle cell = same_cell (PlanetId battle.target) cell || list_any (belongs cell) battle.raid

-- how many units the account of this name loses
abbrev pub losses_at : Battle → CellId → List Fleet → ℕ
losses_at battle (AccountId player) fleets = account_losses battle player fleets
losses_at battle (PlanetId at) fleets = 0

-- a cell after a battle
abbrev pub stand_fought : Rules → Battle → CellId → Stand → Stand
stand_fought rules battle cell stand =
    let grown = (gained rules battle.second stand).seen in
    record {
      second = battle.second;
      seen = record (fleets_fought battle cell grown) { own = own_fought battle cell grown.own; units = grown.units - losses_at battle cell grown.fleets };
    }

-- what is held of the cells that a battle needs, after it, and nothing of all others
abbrev pub fought_at : Rules → Battle → Held → CellId → Option Stand
fought_at rules battle held cell = if touches battle cell then option_map (stand_fought rules battle cell) (held_at held cell) else None

-- A battle can be fought among cells that are held, each of which gains until then: the planet can be left so, and each account loses
-- units that it has.
pub record CanBeFought (rules : Rules) (battle : Battle) (held : Held) : Type 0 where
  pub behind : (cell : CellId) → touches battle cell ≡ true → IfSome (held_at held cell) (λ stand. stand.second ≤ battle.second)
  pub fly : (cell : CellId) → touches battle cell ≡ true → MayFight battle.raid (seen_held held cell).fleets
  pub settles : (place : PlanetCell) → get place_order held.planets battle.target ≡ Some place → CanSettle battle (fields_then rules battle.second place)
  pub lose : (player : Player) (cell : AccountCell) → get player_order held.accounts player ≡ Some cell → touches battle (AccountId player) ≡ true → CanLose battle player (account_stand cell).seen

-- A fleet can fight with its group: it attacks a planet that is held and has it, with all the cells that the battle needs, of which none
-- stands later. The fleets of the group bear numbers that rise, and have no more ships than eight accounts may have. And whatever
-- battle comes of it, the accounts lose units that they have.
pub record CanFight (rules : Rules) (held : Held) (one : Fleet) : Type 0 where
  pub owed : LandsIn held one
  pub hostile : attacks one ≡ true
  pub within : (cell : CellId) → footprint (fights (raid_in held one)) cell ≡ true → holds held cell ≡ true
  pub behind : (cell : CellId) → footprint (fights (raid_in held one)) cell ≡ true → IfSome (held_at held cell) (λ stand. stand.second ≤ one.second)
  pub owner : (place : PlanetCell) → get place_order held.planets one.target ≡ Some place → footprint (fights (raid_in held one)) (AccountId (fields_then rules one.second place).owner) ≡ true
  pub rising : IsStrictlyIncreasing (map (λ (fleet : Fleet). fleet.number) (raid_in held one).fleets)
  pub few : sum_by (λ (fleet : Fleet). sum fleet.ships) (raid_in held one).fleets ≤ MOST_IN_GROUP * UNITS
  pub fought : (battle : Battle) → IsBattle rules held one battle → CanBeFought rules battle held

-- the accounts of the owners of some fleets are held
abbrev pub AreOwnersHeld : Held → List Fleet → Type 0
AreOwnersHeld held fleets = (fleet : Fleet) → IsIn fleet fleets → holds held (AccountId fleet.owner) ≡ true

-- a player's account, if it is held, has these technologies
abbrev pub HasTechs : Held → Player → Techs → Type 0
HasTechs held player techs = (cell : AccountCell) → get player_order held.accounts player ≡ Some cell → techs ≡ cell.account.techs

-- these are the fleets, with the technologies of their owners
pub record AreRaiders (held : Held) (fleets : List Fleet) (raiders : List Raider) : Type 0 where
  pub fleets_are : fleets_seen raiders ≡ fleets
  pub techs : All (λ raider. HasTechs held raider.fleet.owner raider.techs) raiders
