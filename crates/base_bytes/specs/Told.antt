-- What the bytes of a base tell.
use Rattle.std.specs.Prelude.{◌≡◌, ◌<◌, ◌≤◌, ◌^◌, List, All, AllPairs, IsSomeAnd, Some, length, map, true}
use Rattle.std.specs.List.{AllZip, Contains}
use Rattle.account_cell.specs.declared.account.Account.{Account}
use Rattle.base_bytes.specs.Sound.{places_owned}
use Rattle.base_bytes.specs.declared.base.Base.{Base}
use Rattle.base_bytes.specs.declared.limits.TheConstants.{MOST_PLANETS, MOST_PLAYERS}
use Rattle.base_bytes.specs.declared.parts.Course.{Course}
use Rattle.base_bytes.specs.declared.parts.Goods.{Goods}
use Rattle.base_bytes.specs.declared.parts.Ground.{Ground}
use Rattle.base_bytes.specs.declared.parts.Head.{Head}
use Rattle.base_bytes.specs.declared.parts.Sizes.{Sizes}
use Rattle.base_bytes.specs.declared.parts.Timing.{Timing}
use Rattle.base_bytes.specs.declared.parts.Works.{Works}
use Rattle.base_ids.specs.Order.{coord_before}
use Rattle.base_ids.specs.declared.coord.Coord.{Coord}
use Rattle.base_ids.specs.declared.player.Player.{Player}
use Rattle.catalog.specs.declared.classes.TheConstants.{BUILDINGS, TECHNOLOGIES, UNIT_KINDS, WORKS}
use Rattle.fleet_rec.specs.Fleet.{fleet_seen}
use Rattle.fleet_rec.specs.declared.fleet.Fleet.{Fleet}
use Rattle.planet_cell.specs.declared.batch.Batch.{Batch}
use Rattle.planet_cell.specs.declared.planet.Planet.{Planet}
use Rattle.records.specs.Ranges.{CountsFit}

-- an account whose numbers fit in the bytes that they have
pub record AccountFits (account : Account) : Type 0 where
  pub levels : length account.techs.n ≡ length TECHNOLOGIES
  pub numbers : All (λ item. item.number < 2 ^ 64) account.research.items

-- two accounts are the same but for the places of their planets
pub record AreAlike (first second : Account) : Type 0 where
  pub player : second.player ≡ first.player
  pub techs : second.techs ≡ first.techs
  pub units : second.units ≡ first.units
  pub research : second.research.items ≡ first.research.items

-- what a planet is
abbrev pub ground_of : Planet → Ground
ground_of planet =
    record { at = Some planet.at; owner = Some planet.owner; temperature = planet.temperature; fields = planet.fields; levels = planet.levels; tenths = planet.tenths }

-- what stands there
abbrev pub goods_of : Planet → Goods
goods_of planet = record { stock = planet.stock; debris = planet.debris; units = planet.units }

-- what it builds
pub record IsWorks (planet : Planet) (works : Works) : Type 0 where
  pub buildings : IsSomeAnd works.buildings (λ queue. queue.items ≡ planet.buildings.items)
  pub yard : IsSomeAnd works.yard (λ queue. queue.items ≡ planet.yard.items)

-- a planet whose numbers fit in the bytes that they have
pub record GroundFits (planet : Planet) : Type 0 where
  pub fields : planet.fields < 2 ^ 16
  pub levels : length planet.levels ≡ length BUILDINGS
  pub tenths : length planet.tenths ≡ length WORKS

pub record GoodsFit (planet : Planet) : Type 0 where
  pub metal : planet.debris.metal < 2 ^ 64
  pub crystal : planet.debris.crystal < 2 ^ 64
  pub units : CountsFit planet.units (length UNIT_KINDS)

abbrev pub BatchFits : Batch → Type 0
BatchFits batch = (batch.number < 2 ^ 64) × (batch.left < 2 ^ 32)

pub record WorksFit (planet : Planet) : Type 0 where
  pub buildings : All (λ item. item.number < 2 ^ 64) planet.buildings.items
  pub yard : All BatchFits planet.yard.items

pub record PlanetFits (planet : Planet) : Type 0 where
  pub ground : GroundFits planet
  pub goods : GoodsFit planet
  pub works : WorksFit planet

-- two planets have the same in each field, whatever memory their queues take
pub record AreSame (first second : Planet) : Type 0 where
  pub at : second.at ≡ first.at
  pub owner : second.owner ≡ first.owner
  pub temperature : second.temperature ≡ first.temperature
  pub fields : second.fields ≡ first.fields
  pub levels : second.levels ≡ first.levels
  pub tenths : second.tenths ≡ first.tenths
  pub stock : second.stock ≡ first.stock
  pub debris : second.debris ≡ first.debris
  pub units : second.units ≡ first.units
  pub buildings : second.buildings.items ≡ first.buildings.items
  pub yard : second.yard.items ≡ first.yard.items

-- planets rise by their places
abbrev pub DoRise : List Planet → Type 0
DoRise planets = AllPairs (λ first second. coord_before first.at second.at ≡ true) planets

-- a place is that of a planet of a player
abbrev pub IsOwnAt : List Planet → Player → Coord → Type 0
IsOwnAt planets player at = Contains (places_owned player planets) at

-- a fleet that comes in time, and whose target is a planet of the player whom it names
pub record FleetFits (planets : List Planet) (fleet : Fleet) : Type 0 where
  pub in_time : fleet.second < 2 ^ 42
  pub target : IsOwnAt planets fleet.target_owner fleet.target

-- where a fleet flies
abbrev pub course_of : Fleet → Course
course_of fleet =
    record {
      number = fleet.number;
      group = fleet.group;
      owner = Some fleet.owner;
      mission = Some fleet.mission;
      outbound = Some fleet.outbound;
      origin = Some fleet.origin;
      target = Some fleet.target;
    }

-- how fast, and when
abbrev pub timing_of : Fleet → Timing
timing_of fleet = record { setting = Some fleet.setting; launch = fleet.launch; second = fleet.second }

-- what the head of a base tells
pub record IsHead (base : Base) (head : Head) : Type 0 where
  pub seed : head.seed ≡ base.seed
  pub speed : head.speed ≡ base.speed
  pub capacity : head.capacity ≡ base.capacity
  pub moment : head.moment ≡ base.moment
  pub number : head.number ≡ base.number

-- a base with no more accounts and planets than it may have, and with fleets that can be counted
pub record SizesFit (base : Base) : Type 0 where
  pub accounts : length base.accounts.items ≤ MOST_PLAYERS
  pub planets : length base.planets.items ≤ MOST_PLANETS
  pub fleets : length base.fleets < 2 ^ 32

-- how many accounts, planets and fleets a base has
pub record AreSizes (base : Base) (sizes : Sizes) : Type 0 where
  pub accounts : sizes.accounts ≡ length base.accounts.items
  pub planets : sizes.planets ≡ length base.planets.items
  pub fleets : sizes.fleets ≡ length base.fleets

-- a base whose numbers fit in the bytes that they have, whose planets rise, and whose fleets come in time to those whom they name
pub record FitsBytes (base : Base) : Type 0 where
  pub seed : base.seed < 2 ^ 64
  pub sizes : SizesFit base
  pub accounts : All AccountFits base.accounts.items
  pub planets : All PlanetFits base.planets.items
  pub rise : DoRise base.planets.items
  pub held : List Fleet
  pub fleets : base.fleets ≡ map fleet_seen held
  pub flying : All (FleetFits base.planets.items) held

-- a base is the same as another, but for the places of the planets of each account
pub record IsTold (base told : Base) : Type 0 where
  pub seed : told.seed ≡ base.seed
  pub speed : told.speed ≡ base.speed
  pub capacity : told.capacity ≡ base.capacity
  pub moment : told.moment ≡ base.moment
  pub number : told.number ≡ base.number
  pub accounts : AllZip AreAlike base.accounts.items told.accounts.items
  pub planets : AllZip AreSame base.planets.items told.planets.items
  pub fleets : told.fleets ≡ base.fleets

-- A base that is read has a seed of 64 bits, and no more accounts and planets than it may have. Each account has the places of its
-- planets, and the target of each fleet is a planet of the player whom it names.
pub record IsRead (base : Base) : Type 0 where
  pub seed : base.seed < 2 ^ 64
  pub players : length base.accounts.items ≤ MOST_PLAYERS
  pub planets : length base.planets.items ≤ MOST_PLANETS
  pub listed : All (λ account. account.planets.items ≡ places_owned account.player base.planets.items) base.accounts.items
  pub named : All (λ fleet. IsOwnAt base.planets.items fleet.target_owner fleet.target) base.fleets
