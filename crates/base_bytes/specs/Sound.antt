-- What holds of a base from the founding on.
use Rattle.std.specs.Prelude.{◌≡◌, ℕ, ◌+◌, ◌≤◌, ◌<◌, ◌^◌, List, [], ◌∷◌, true, false, filter, length, map, sum, sum_by, All, AllPairs}
use Rattle.std.specs.List.{Contains}
use Rattle.account_cell.specs.Account.{account_fields, research_of}
use Rattle.account_cell.specs.declared.account.Account.{Account}
use Rattle.base_bytes.specs.Base.{all_items}
use Rattle.base_bytes.specs.declared.base.Base.{Base}
use Rattle.base_ids.specs.Cells.{same_coord, same_player}
use Rattle.base_ids.specs.Order.{coord_before, player_before}
use Rattle.base_ids.specs.declared.coord.Coord.{Coord}
use Rattle.base_ids.specs.declared.player.Player.{Player}
use Rattle.catalog.specs.declared.classes.TheConstants.{UNIT_KINDS}
use Rattle.catalog.specs.declared.mission.Mission.{Mission}
use Rattle.catalog.specs.declared.mission.Mission.TheVariants.{Attack}
use Rattle.catalog.specs.declared.ships.TheConstants.{SHIPS}
use Rattle.flight.specs.Freight.{capacity_of}
use Rattle.planet_cell.specs.Planet.{batches_of, buildings_of, fields_of, queue_of}
use Rattle.planet_cell.specs.declared.planet.Planet.{Planet}
use Rattle.tick_model.specs.declared.codes.TheConstants.{MOST_IN_GROUP}
use Rattle.tick_model.specs.Limits.{KeepsLevels, KeepsTechs}
use Rattle.tick_model.specs.Moments.{IsTimed}
use Rattle.tick_model.specs.Flights.{cargo_units}
use Rattle.tick_model.specs.Lines.{own_fleets, slots_of}
use Rattle.tick_model.specs.Raids.{outbound_in}
use Rattle.tick_model.specs.Rules.{ArriveTogether, same_order}
use Rattle.tick_model.specs.Sending.{suits}
use Rattle.tick_model.specs.Universe.{Fleet, Item}
use Rattle.tick_model.specs.Views.{ships_of, units_left}

-- the planets of a player, in their order
abbrev pub planets_owned : Player → List Planet → List Planet
planets_owned player planets = filter (λ planet. same_player planet.owner player) planets

-- their places
abbrev pub places_owned : Player → List Planet → List Coord
places_owned player planets = map (λ planet. planet.at) (planets_owned player planets)

-- the units of a planet: those that stand there, and those that its yard is to build
abbrev pub units_counted : Planet → ℕ
units_counted planet = sum planet.units + units_left (batches_of planet)

-- the first item of a queue comes due past a moment
abbrev pub RunsAfter : ℕ → List Item → Type 0
RunsAfter moment [] = Unit {0}
RunsAfter moment (first ∷ waiting) = moment < first.second

-- the units of a player: those of the planets, and the ships of the fleets
abbrev pub units_owned : Player → List Planet → List Fleet → ℕ
units_owned player planets fleets = sum_by units_counted (planets_owned player planets) + sum_by (ships_of player) fleets

-- an account has no more fleets than its computers allow
abbrev pub HasSlots : List Fleet → Account → Type 0
HasSlots fleets account = length (own_fleets account.player fleets) ≤ slots_of (account_fields account)

-- the group of a fleet that attacks is its own number or a lower one; that of any other fleet is its own number
abbrev pub IsInGroup : Mission → ℕ → ℕ → Type 0
IsInGroup Attack number group = (1 ≤ group) × (group ≤ number)
IsInGroup _ number group = group ≡ number

-- A fleet has the number of a request, and flies in a group. It flies from a planet of its owner to another planet, of the player whom it
-- names; its mission suits that player and its ships. It has ships, and no more cargo than they carry. It was sent by the moment,
-- and lands past it, before second 2^42.
pub record IsSoundFleet (base : Base) (fleet : Fleet) : Type 0 where
  pub drawn : (1 ≤ fleet.number) × (fleet.number ≤ base.number)
  pub grouped : IsInGroup fleet.mission fleet.number fleet.group
  pub leaves : Contains (places_owned fleet.owner base.planets.items) fleet.origin
  pub reaches : Contains (places_owned fleet.target_owner base.planets.items) fleet.target
  pub elsewhere : same_coord fleet.origin fleet.target ≡ false
  pub suited : suits fleet.mission (same_player fleet.target_owner fleet.owner) fleet.ships ≡ true
  pub kinds : length fleet.ships ≡ length SHIPS
  pub manned : 1 ≤ sum fleet.ships
  pub laden : cargo_units fleet.cargo ≤ capacity_of fleet.ships
  pub sent : fleet.launch ≤ base.moment
  pub lands : base.moment < fleet.second
  pub in_time : fleet.second < 2 ^ 42

-- Accounts, planets and fleets rise strictly by their names. Each planet is an account's, and counts units of all kinds; each account lists
-- the places of its planets, counts its units, and researches on its planets. What runs comes due after the moment, in its time, and each
-- item of a queue has the number of a request, no two of one class the same. The first level of a queue is the next one of its kind,
-- and what is behind waits. Levels keep their caps, and planets their fields and one dome of a kind, even if all is built that is queued. Each fleet is sound. Those that fly out in one group arrive together, and are no
-- more than a group may have; and no account has more fleets than it may have.
pub record IsSound (base : Base) : Type 0 where
  pub accounts_rise : AllPairs (λ first second. player_before first.player second.player ≡ true) base.accounts.items
  pub planets_rise : AllPairs (λ first second. coord_before first.at second.at ≡ true) base.planets.items
  pub fleets_rise : AllPairs (λ first second. first.number < second.number) base.fleets
  pub owned : All (λ planet. Contains (map (λ account. account.player) base.accounts.items) planet.owner) base.planets.items
  pub kinds : All (λ planet. length planet.units ≡ length UNIT_KINDS) base.planets.items
  pub listed : All (λ account. account.planets.items ≡ places_owned account.player base.planets.items) base.accounts.items
  pub counted : All (λ account. account.units ≡ units_owned account.player base.planets.items base.fleets) base.accounts.items
  pub at_home : All (λ account. All (λ item. Contains account.planets.items item.at) account.research.items) base.accounts.items
  pub built : All (λ planet. RunsAfter base.moment (buildings_of planet)) base.planets.items
  pub manned : All (λ planet. RunsAfter base.moment (batches_of planet)) base.planets.items
  pub researched : All (λ account. RunsAfter base.moment (research_of account)) base.accounts.items
  pub drawn : All (λ item. (1 ≤ item.number) × (item.number ≤ base.number)) (all_items base.accounts.items base.planets.items)
  pub timed : All (IsTimed base.moment) (all_items base.accounts.items base.planets.items)
  pub distinct : AllPairs (λ first second. same_order first second ≡ false) (all_items base.accounts.items base.planets.items)
  pub levelled : All (λ planet. KeepsLevels (fields_of planet) (queue_of planet)) base.planets.items
  pub learned : All (λ account. KeepsTechs (account_fields account) (research_of account)) base.accounts.items
  pub flying : All (IsSoundFleet base) base.fleets
  pub together : AllPairs ArriveTogether base.fleets
  pub few : (group : ℕ) → length (outbound_in group base.fleets) ≤ MOST_IN_GROUP
  pub slots : All (HasSlots base.fleets) base.accounts.items
