-- The rules hold of what cells have of their own as long as planets stay their owners'.
use Rattle.std.proofs.Common.{◌≡◌, true, Contains, length, ap, ◌∙◌, sym, subst}
use Rattle.base_ids.specs.declared.player.Player.{Player}
use Rattle.base_ids.specs.declared.cell_id.CellId.{CellId}
use Rattle.base_ids.specs.declared.cell_id.CellId.TheVariants.{Account, Planet}
use Rattle.catalog.specs.declared.classes.TheConstants.{UNIT_KINDS}
use Rattle.tick_model.specs.Requests.{is_there}
use Rattle.tick_model.specs.Rules.{IsFlying, IsPlaced, KeepsRules, queue_cell}
use Rattle.tick_model.specs.Universe.{Own, of_planet, PlanetFields, Fleet, Item, Setting, State}
use Rattle.tick_model.proofs.Owns.{Stays, stays-there, still-planet, was-planet}
use Rattle.tick_model.proofs.Writes.{with_owns}

-- every cell stays
abbrev pub AllStay : (CellId → Own) → (CellId → Own) → Type 0
AllStay old new = (x : CellId) → Stays (old x) (new x)

module _ (setting : Setting) (own : CellId → Own) (state : State) (stay : AllStay state.own own) (fine : KeepsRules setting state) where
  pub stay-listed : (cell : CellId) → is_there (own cell) ≡ true → Contains setting.cells cell
  stay-listed cell there = fine.listed cell (sym (stays-there (state.own cell) (own cell) (stay cell)) ∙ there)

  pub stay-owned : (cell : CellId) (planet : PlanetFields) → own cell ≡ of_planet planet → Contains setting.cells (Account planet.owner)
  stay-owned cell planet is =
      let was = was-planet (state.own cell) (own cell) (stay cell) planet is in
      subst (λ (k : Player). Contains setting.cells (Account k)) (sym was.owner) (fine.owned cell was.planet_was was.is)

  pub stay-kinds : (cell : CellId) (planet : PlanetFields) → own cell ≡ of_planet planet → length planet.units ≡ length UNIT_KINDS
  stay-kinds cell planet is =
      let was = was-planet (state.own cell) (own cell) (stay cell) planet is in
      was.kinds ∙ fine.kinds cell was.planet_was was.is

-- what an item needs of its planet stays
pub placed-still : (old new : State) (item : Item) → AllStay old.own new.own → IsPlaced old item → IsPlaced new item
placed-still old new item stay placed =
    let still = still-planet (old.own (Planet item.place)) (new.own (Planet item.place)) (stay (Planet item.place)) placed.planet placed.stands in
    record {
      planet = still.planet_is;
      stands = still.is;
      cell = placed.cell ∙ ap (queue_cell item.class item.place) (sym still.owner);
      batch = placed.batch;
    }

-- and what a fleet needs of its planets
pub flying-still : (old new : State) (fleet : Fleet) → AllStay old.own new.own → IsFlying old fleet → IsFlying new fleet
flying-still old new fleet stay flying =
    let from = still-planet (old.own (Planet fleet.origin)) (new.own (Planet fleet.origin)) (stay (Planet fleet.origin)) flying.from flying.leaves in
    let to = still-planet (old.own (Planet fleet.target)) (new.own (Planet fleet.target)) (stay (Planet fleet.target)) flying.to flying.reaches in
    record {
      from = from.planet_is;
      leaves = from.is;
      is_own = from.owner ∙ flying.is_own;
      to = to.planet_is;
      reaches = to.is;
      is_theirs = to.owner ∙ flying.is_theirs;
      kinds = flying.kinds;
      later = flying.later;
      deployed = flying.deployed;
      grouped = flying.grouped;
    }

pub keeps-owns : (setting : Setting) (own : CellId → Own) (state : State) → AllStay state.own own → KeepsRules setting state → KeepsRules setting (with_owns own state)
keeps-owns setting own state stay fine = record {
  listed = stay-listed setting own state stay fine;
  once = fine.once;
  owned = stay-owned setting own state stay fine;
  kinds = stay-kinds setting own state stay fine;
  placed = λ item is. placed-still state (with_owns own state) item stay (fine.placed item is);
  drawn = fine.drawn;
  distinct = fine.distinct;
  paced = fine.paced;
  flying = λ fleet is. flying-still state (with_owns own state) fleet stay (fine.flying fleet is);
  sent = fine.sent;
  apart = fine.apart;
  rise = fine.rise;
  together = fine.together;
  few = fine.few;
}
