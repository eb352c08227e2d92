-- A universe as its rules see it. Rules: docs/RULES.md, "Time and order" and "Resources and grains".
use Rattle.std.specs.Prelude.{ℕ, ℤ, List, Bool, true, false}
use Rattle.base_ids.specs.declared.coord.Coord.{Coord}
use Rattle.base_ids.specs.declared.player.Player.{Player}
use Rattle.base_ids.specs.declared.cell_id.CellId.{CellId}
use Rattle.catalog.specs.declared.kind.Kind.{Kind}
use Rattle.catalog.specs.declared.mission.Mission.{Mission}
use Rattle.catalog.specs.declared.techs.Techs.{Techs}
use Rattle.rates.specs.declared.resources.Resources.{Resources}
use Rattle.reply_text.specs.declared.units.Units.{Units}
use Rattle.tick_model.specs.declared.rules.Rules.{Rules}
use Rattle.tick_model.specs.declared.debris.Debris.{Debris}

-- What a planet has of its own: its owner, its maximum temperature, its fields, the levels of its buildings in the order of
-- BUILDINGS, the tenths at which its works run in the order of WORKS, its stocks in grains of 1/3600 unit, the debris around it
-- in units, and its units in the order of UNIT_KINDS. Where it stands is the name of its cell.
pub record PlanetFields : Type 0 where
  pub owner : Player
  pub temperature : ℤ
  pub fields : ℕ
  pub levels : List ℕ
  pub tenths : List ℕ
  pub stock : Resources
  pub debris : Debris
  pub units : List ℕ

-- what an account has of its own: the levels of its technologies
pub record AccountFields : Type 0 where
  pub techs : Techs

-- what a cell has of its own: nothing if no player has the number and no planet stands at the place
pub data Own : Type 0 where
  of_nothing : Own
  of_account : AccountFields → Own
  of_planet : PlanetFields → Own

-- the queues of a cell: a planet builds, and its yard builds units; an account researches
pub data QueueClass : Type 0 where
  Buildings : QueueClass
  Researches : QueueClass
  Yard : QueueClass

abbrev pub same_class : QueueClass → QueueClass → Bool
same_class Buildings Buildings = true
same_class Researches Researches = true
same_class Yard Yard = true
same_class _ _ = false

-- An item of a queue: the number of the request that ordered it, the cell and the class of its queue, its kind, and the planet that
-- pays it. A building or a research that runs has the level that it reaches, and the second at which it does. A batch of units has
-- how many are left to build; the first batch of a yard also has the seconds that each of them takes, and the second at which the
-- next one is done. What an item doesn't have is 0.
pub record Item : Type 0 where
  pub number : ℕ
  pub cell : CellId
  pub class : QueueClass
  pub kind : Kind
  pub place : Coord
  pub level : ℕ
  pub left : ℕ
  pub unit_seconds : ℕ
  pub second : ℕ

-- A fleet: the number of the request that sent it; its group, which is the same number if it joined nobody; its owner; its mission; its
-- origin and its target, and who owned the target when it was sent; whether it flies out or back; its speed setting; the second at
-- which it was sent, and the one at which it arrives or is back; its cargo in whole units; and its ships in the order of SHIPS.
pub record Fleet : Type 0 where
  pub number : ℕ
  pub group : ℕ
  pub owner : Player
  pub mission : Mission
  pub origin : Coord
  pub target : Coord
  pub target_owner : Player
  pub outbound : Bool
  pub setting : ℕ
  pub launch : ℕ
  pub second : ℕ
  pub cargo : Units
  pub ships : List ℕ

-- what can change: the number of the last request, what each cell has of its own, and all items and all fleets in one list each
pub record State : Type 0 where
  pub number : ℕ
  pub own : CellId → Own
  pub items : List Item
  pub fleets : List Fleet

-- what never changes: the rules, and the directory of the names of all cells
pub record Setting : Type 0 where
  pub rules : Rules
  pub cells : List CellId

-- a universe: all of it stands at one moment
pub record Universe : Type 0 where
  pub setting : Setting
  pub moment : ℕ
  pub state : State
