-- What holds of one planet, or of one account, in a base that bytes can spell.
use Rattle.std.specs.Prelude.{◌≡◌, ℕ, ◌≤◌, ◌<◌, List, All, AllPairs, length, map, true}
use Rattle.std.specs.List.{Contains}
use Rattle.account_cell.specs.Account.{account_fields, research_of}
use Rattle.account_cell.specs.declared.account.Account.{Account}
use Rattle.base_bytes.specs.Base.{all_items, planet_items}
use Rattle.base_bytes.specs.Counting.{AreOnce}
use Rattle.base_bytes.specs.Rules.{IsInRange}
use Rattle.base_bytes.specs.Sound.{HasSlots, IsSoundFleet, RunsAfter, units_owned}
use Rattle.base_bytes.specs.Tallies.{FitInGroups}
use Rattle.base_bytes.specs.Told.{DoRise}
use Rattle.base_bytes.specs.declared.base.Base.{Base}
use Rattle.base_bytes.specs.declared.limits.TheConstants.{MOST_OWNED}
use Rattle.base_ids.specs.Order.{player_before}
use Rattle.catalog.specs.declared.classes.TheConstants.{TECHNOLOGIES, UNIT_KINDS}
use Rattle.fleet_rec.specs.Fleet.{fleet_seen}
use Rattle.fleet_rec.specs.declared.fleet.Fleet.{Fleet as FleetRecord}
use Rattle.planet_cell.specs.Planet.{batches_of, buildings_of, fields_of, queue_of}
use Rattle.planet_cell.specs.declared.planet.Planet.{Planet}
use Rattle.tick_model.specs.Limits.{KeepsLevels, KeepsTechs}
use Rattle.tick_model.specs.Moments.{IsTimed}
use Rattle.tick_model.specs.Universe.{Item}

-- an item has the number of one of the first so many requests
abbrev pub IsDrawn : ℕ → Item → Type 0
IsDrawn number item = (1 ≤ item.number) × (item.number ≤ number)

-- an account researches on planets of its own
abbrev pub IsAtHome : Account → Type 0
IsAtHome account = All (λ item. Contains account.planets.items item.at) account.research.items

-- A planet after so many requests, at a moment: it is in its ranges, counts units of all kinds and keeps its levels, what runs comes
-- due past the moment, and each item of its queues has the number of a request, and its time.
pub record PlanetKeeps (moment number : ℕ) (planet : Planet) : Type 0 where
  pub range : IsInRange planet
  pub kinds : length planet.units ≡ length UNIT_KINDS
  pub levels : KeepsLevels (fields_of planet) (queue_of planet)
  pub built : RunsAfter moment (buildings_of planet)
  pub manned : RunsAfter moment (batches_of planet)
  pub drawn : All (IsDrawn number) (planet_items planet)
  pub timed : All (IsTimed moment) (planet_items planet)

-- An account after so many requests, at a moment: it has a level of each technology and keeps them, has no more planets than it may
-- have, and researches on its own; what runs comes due past the moment, and each item has the number of a request, and its time.
pub record AccountKeeps (moment number : ℕ) (account : Account) : Type 0 where
  pub levels : length account.techs.n ≡ length TECHNOLOGIES
  pub learned : KeepsTechs (account_fields account) (research_of account)
  pub owned : length account.planets.items ≤ MOST_OWNED
  pub at_home : IsAtHome account
  pub researched : RunsAfter moment (research_of account)
  pub drawn : All (IsDrawn number) (research_of account)
  pub timed : All (IsTimed moment) (research_of account)

-- Accounts, planets and fleets rise strictly by their names, and each planet is an account's.
pub record ListsRise (base : Base) : Type 0 where
  pub accounts : AllPairs (λ first second. player_before first.player second.player ≡ true) base.accounts.items
  pub planets : DoRise base.planets.items
  pub fleets : AllPairs (λ first second. first.number < second.number) base.fleets
  pub owned : All (λ planet. Contains (map (λ account. account.player) base.accounts.items) planet.owner) base.planets.items

-- each account, each planet and each fleet is as the rules say
pub record EachKeeps (base : Base) : Type 0 where
  pub accounts : All (AccountKeeps base.moment base.number) base.accounts.items
  pub planets : All (PlanetKeeps base.moment base.number) base.planets.items
  pub fleets : All (IsSoundFleet base) base.fleets

-- No two items of one class have the same number, each account counts its units, and fleets fit in their groups and in their
-- owners' slots.
pub record CountsFit (base : Base) : Type 0 where
  pub once : AreOnce (all_items base.accounts.items base.planets.items)
  pub counted : All (λ account. account.units ≡ units_owned account.player base.planets.items base.fleets) base.accounts.items
  pub groups : FitInGroups base.fleets
  pub slots : All (HasSlots base.fleets) base.accounts.items
  pub held : (held : List FleetRecord) × (base.fleets ≡ map fleet_seen held)
