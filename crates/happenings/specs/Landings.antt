-- The fleets of cells that are held, and what a landing makes of these cells. Rules: docs/RULES.md, "Fleets" and "Events".
use Rattle.std.specs.Prelude.{◌≡◌, ◌+◌, ◌≤◌, ◌⊎◌, sum, Bool, true, false, not, ◌&&◌, ◌||◌, filter, Option, Some, IfSome, option_map, if◌then◌else◌}
use Rattle.std.specs.Option.{ForSome}
use Rattle.base_ids.specs.Cells.{same_cell}
use Rattle.base_ids.specs.declared.cell_id.CellId.{CellId}
use Rattle.base_ids.specs.declared.cell_id.CellId.TheVariants.{Account as AccountId, Planet as PlanetId}
use Rattle.catalog.specs.declared.mission.Mission.TheVariants.{Deploy}
use Rattle.catalog.specs.declared.ships.TheConstants.{UNITS}
use Rattle.fleet_rec.specs.Fleets.{AreOutbound, after_landing}
use Rattle.reply_text.specs.declared.units.Units.{Units}
use Rattle.tick_model.specs.Flights.{landed, landing}
use Rattle.tick_model.specs.Rules.{IsIn}
use Rattle.tick_model.specs.Universe.{Fleet, Yard}
use Rattle.tick_model.specs.Views.{Holding, View, belongs, holding}
use Rattle.tick_model.specs.declared.rules.Rules.{Rules}
use Rattle.happenings.specs.Gaining.{gained}
use Rattle.happenings.specs.Held.{Stand, held_at}
use Rattle.happenings.specs.Queues.{seen_held}
use Rattle.happenings.specs.declared.held.Held.{Held}

-- what is seen of a cell has only fleets that belong to it
abbrev pub HasOwnFleets : CellId → View → Type 0
HasOwnFleets cell seen = (fleet : Fleet) → IsIn fleet seen.fleets → belongs cell fleet ≡ true

-- so have all cells that are held
abbrev pub HaveOwnFleets : Held → Type 0
HaveOwnFleets held = (cell : CellId) → HasOwnFleets cell (seen_held held cell)

-- a fleet lands at a planet that is held
abbrev pub LandsIn : Held → Fleet → Type 0
LandsIn held fleet = IsIn fleet (seen_held held (PlanetId (landing fleet))).fleets

-- how a cell stands once its copy of a fleet that landed has turned back with a cargo, or is gone: it keeps it only if it is still one of
-- the fleet's cells
abbrev pub stand_left : Fleet → Option Units → CellId → Stand → Stand
stand_left fleet back cell stand =
    record stand { seen = record stand.seen { fleets = filter (belongs cell) (after_landing fleet.number back stand.seen.fleets) } }

-- before, it gained until the landing
abbrev pub left : Rules → Fleet → Option Units → CellId → Stand → Stand
left rules fleet back cell stand = stand_left fleet back cell (gained rules fleet.second stand)

-- the fleet has left these of the cells that are held, and all others are as before
abbrev pub Leaves : (CellId → Bool) → Rules → Fleet → Option Units → Held → Held → Type 0
Leaves cells rules fleet back old new =
    (cell : CellId) → held_at new cell ≡ (if cells cell then option_map (left rules fleet back cell) (held_at old cell) else held_at old cell)

-- the cells to which a fleet belongs on all its way, and those to which it belongs only on its way out
abbrev pub is_home : Fleet → CellId → Bool
is_home fleet cell = same_cell (PlanetId fleet.origin) cell || same_cell (AccountId fleet.owner) cell

abbrev pub is_abroad : Fleet → CellId → Bool
is_abroad fleet cell = (same_cell (PlanetId fleet.target) cell || same_cell (AccountId fleet.target_owner) cell) && not (is_home fleet cell)

-- A fleet can leave a cell if that is held: the cell stands no later than the landing, and if the fleet turns back, it flies out.
pub record CanLeave (fleet : Fleet) (back : Option Units) (held : Held) (cell : CellId) : Type 0 where
  pub behind : IfSome (held_at held cell) (λ stand. stand.second ≤ fleet.second)
  pub flies : ForSome back (λ cargo. AreOutbound fleet.number (seen_held held cell).fleets)

-- what landing makes of the planet
abbrev pub stand_unloaded : Fleet → Stand → Stand
stand_unloaded fleet stand = record stand { seen = record stand.seen { own = (landed fleet stand.seen.own).own } }

-- the planet at which the fleet landed, and no other cell, has got what it brought
abbrev pub Unloads : Fleet → Held → Held → Type 0
Unloads fleet old new =
    (cell : CellId) → held_at new cell ≡ (if same_cell (PlanetId (landing fleet)) cell then option_map (stand_unloaded fleet) (held_at old cell) else held_at old cell)

-- a fleet that lands stays there: it is back, or deployed
abbrev pub Stays : Fleet → Type 0
Stays fleet = (fleet.outbound ≡ false) ⊎ (fleet.mission ≡ Deploy)

-- a planet has room for the ships of a fleet, if they stay there
abbrev pub HasRoom : Fleet → Stand → Type 0
HasRoom fleet stand =
    Stays fleet → (held : Holding) → holding stand.seen.own (stand.seen.queue Yard) ≡ Some held → held.units + sum fleet.ships ≤ UNITS

-- A fleet can land: the planet has it, and room for its ships if they stay. None of its cells that are held stands later. Each cell has
-- only fleets that belong to it, and no other fleet bears its number.
pub record CanLand (held : Held) (fleet : Fleet) : Type 0 where
  pub owed : LandsIn held fleet
  pub room : IfSome (held_at held (PlanetId (landing fleet))) (HasRoom fleet)
  pub behind : (cell : CellId) → belongs cell fleet ≡ true → IfSome (held_at held cell) (λ stand. stand.second ≤ fleet.second)
  pub own_fleets : HaveOwnFleets held
  pub alone : (cell : CellId) (other : Fleet) → IsIn other (seen_held held cell).fleets → other.number ≡ fleet.number → other ≡ fleet
