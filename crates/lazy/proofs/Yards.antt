-- Yards of cells that are held, as code lets them run.
use Rattle.std.proofs.Common.{◌≡◌, ℕ, suc, ◌+◌, ◌-◌, ◌<◌, ◌≤◌, true, false, cond, List, [], ◌∷◌, drop, get_or, length, drop-cons, arith, refl, ap, ◌∙◌, sym, subst, Option, Some, None}
use Rattle.std.proofs.Math.Path.{fun_ext}
use Rattle.std.specs.Prelude.{option_map}
use Rattle.base_ids.specs.declared.cell_id.CellId.{CellId}
use Rattle.base_ids.specs.declared.cell_id.CellId.TheVariants.{Account}
use Rattle.base_ids.specs.declared.player.Player.{Player}
use Rattle.happenings.specs.Held.{account_stand, held_at, planet_stand}
use Rattle.happenings.specs.declared.held.AccountCell.{AccountCell}
use Rattle.happenings.specs.declared.held.Held.{Held}
use Rattle.happenings.specs.declared.held.PlanetCell.{PlanetCell}
use Rattle.happenings.proofs.Gains.{same_stand}
use Rattle.happenings.proofs.Standing.{planet_seen}
use Rattle.planet_cell.specs.Planet.{AreSame, batches_of, buildings_of, queue_of}
use Rattle.planet_cell.specs.Yard.{IsAhead, ticked_yard, yard_of}
use Rattle.planet_cell.specs.declared.planet.Planet.{Planet}
use Rattle.tick_model.specs.Buildings.{Works}
use Rattle.tick_model.specs.Universe.{Buildings, Researches, Yard, Fleet, QueueClass, of_planet}
use Rattle.tick_model.specs.declared.rules.Rules.{Rules}
use Rattle.lazy.specs.Running.{first_turn, is_running, landing_second, ran_stand, run_until, turn_at, with_yard}
use Rattle.lazy.proofs.Turns.{running-is}

-- one cell more
pub turn-more : (held : Held) (names : List CellId) (i : ℕ) (name : CellId) (first next limit : ℕ) → i < length names → name ≡ get_or names i name → next ≡ turn_at first name (held_at held name)
    → first_turn held first (drop i names) ≡ first_turn held limit names → first_turn held next (drop (i + 1) names) ≡ first_turn held limit names
turn-more held names i name first next limit below is turns so_far =
    let one : i + 1 ≡ suc i = omega arith in
    ap (λ n. first_turn held n (drop (i + 1) names)) turns
    ∙ (λ j. first_turn held (turn_at first (is j) (held_at held (is j))) (drop (one j) names))
    ∙ ap (first_turn held first) (sym (drop-cons names i name below))
    ∙ so_far

-- no fleet lands at an account
pub account-landing : (limit : ℕ) (player : Player) (fleets : List Fleet) → landing_second limit (Account player) fleets ≡ limit
account-landing limit player [] = refl
account-landing limit player (fleet ∷ later) = account-landing limit player later

-- accounts have no yards
pub account-stays : (rules : Rules) (limit : ℕ) (o : Option AccountCell) → ran_stand rules limit (option_map account_stand o) ≡ None
account-stays rules limit None = refl
account-stays rules limit (Some cell) = refl

pub planet-stays : (rules : Rules) (limit : ℕ) (cell : PlanetCell) → is_running limit cell.second (batches_of cell.planet) ≡ false → ran_stand rules limit (Some (planet_stand cell)) ≡ None
planet-stays rules limit cell is = ap (λ b. cond b (Some (run_until rules (limit - 1) (planet_stand cell))) None) is

pub planet-runs : (rules : Rules) (limit : ℕ) (cell : PlanetCell) → is_running limit cell.second (batches_of cell.planet) ≡ true
    → ran_stand rules limit (Some (planet_stand cell)) ≡ Some (run_until rules (limit - 1) (planet_stand cell))
planet-runs rules limit cell is = ap (λ b. cond b (Some (run_until rules (limit - 1) (planet_stand cell))) None) is

-- what a yard must be that runs
pub record CanRun (limit : ℕ) (cell : PlanetCell) : Type 0 where
  pub some : 1 ≤ limit
  pub order : cell.second ≤ limit - 1
  pub ahead : IsAhead cell.second (batches_of cell.planet)

pub can-run : (limit : ℕ) (cell : PlanetCell) → is_running limit cell.second (batches_of cell.planet) ≡ true → CanRun limit cell
can-run limit cell is =
    let runs = running-is limit cell.second (batches_of cell.planet) is in
    let ahead : cell.second < runs.batch.second = runs.ahead in
    let before : runs.batch.second < limit = runs.before in
    record {
      some = omega (arith, ahead, before);
      order = omega (arith, ahead, before);
      ahead = subst (IsAhead cell.second) (sym runs.are) ahead;
    }

queues-ran : (copy new : Planet) (came : Works) → buildings_of new ≡ buildings_of copy → batches_of new ≡ came.queue → (class : QueueClass) → queue_of new class ≡ with_yard came.queue (queue_of copy) class
queues-ran copy new came buildings yard Buildings = buildings
queues-ran copy new came buildings yard Researches = refl
queues-ran copy new came buildings yard Yard = yard

-- a copy of a planet whose yard ran
pub planet-ran : (rules : Rules) (until : ℕ) (cell : PlanetCell) (copy new : Planet) → AreSame cell.planet copy
    → yard_of new ≡ ticked_yard rules.speed cell.second (until - cell.second) (yard_of copy) → buildings_of new ≡ buildings_of copy
    → planet_stand (record { second = until; planet = new; fleets = cell.fleets }) ≡ run_until rules until (planet_stand cell)
planet-ran rules until cell copy new same works buildings =
    let old : PlanetCell = record { second = cell.second; planet = copy; fleets = cell.fleets } in
    let came = ticked_yard rules.speed cell.second (until - cell.second) (yard_of copy) in
    let queue = fun_ext (queues-ran copy new came buildings (ap (λ (w : Works). w.queue) works)) in
    (λ i. record { second = until; seen = planet_seen (of_planet (works i).planet) (queue i) cell.fleets })
    ∙ ap (run_until rules until) (sym (same_stand cell old refl same refl))
