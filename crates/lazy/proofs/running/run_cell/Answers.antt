use Rattle.std.proofs.Common.{◌≡◌, ◌-◌, ap, ◌∙◌, sym, subst, None}
use Rattle.std.specs.Prelude.{option_map}
use Rattle.base_ids.specs.declared.cell_id.CellId.TheVariants.{Planet}
use Rattle.happenings.specs.Held.{CopiesFrom, Puts, planet_stand}
use Rattle.happenings.proofs.Acting.{named_planet}
use Rattle.happenings.proofs.Copying.{copies_none, copies_one, on_ok}
use Rattle.lazy.specs.Running.{ran_at, ran_stand, run_until}
use Rattle.lazy.proofs.Yards.{planet-runs, planet-stays}
use Rattle.lazy.proofs.running.run_cell.Goals as goal

pub returns-then-not-is_running-clause-copies : goal.returns-then-not-is_running-clause-copies
returns-then-not-is_running-clause-copies c =
    let rules = c.args.rules.now in
    let there = ran_at rules c.args.limit c.args.cells.now in
    let none : there c.args.name ≡ None =
    ap there c.in-Planet.is
    ∙ ap (λ o. ran_stand rules c.args.limit (option_map planet_stand o)) c.in-Some.ensures
    ∙ planet-stays rules c.args.limit c.in-Some.cell.now (sym c.is_running.ensures ∙ c.if-not-is_running.true) in
    copies_none there c.args.ran.now c.args.name none

pub returns-clause-copies : goal.returns-clause-copies
returns-clause-copies c =
    let rules = c.args.rules.now in
    let limit = c.args.limit in
    let there = ran_at rules limit c.args.cells.now in
    let at = c.in-Planet.at in
    let old = c.in-Some.cell.now in
    let copy = c.in_ok-run_planet.field-0 in
    let found = c.in-Some.ensures in
    let own = named_planet c.args.cells.now at old c.requires.named found in
    let runs = ap (λ o. ran_stand rules limit (option_map planet_stand o)) found ∙ planet-runs rules limit old (sym c.is_running.ensures ∙ c.if-not-is_running.false) in
    on_ok c.put_planet.result (Puts c.args.ran.now c.put_planet.new.self (Planet copy.planet.at) (planet_stand copy)) (CopiesFrom there c.args.name c.args.ran.now c.put_planet.new.self)
    (λ puts. subst (λ n. CopiesFrom there n c.args.ran.now c.put_planet.new.self) (sym c.in-Planet.is)
    (copies_one there c.args.ran.now c.put_planet.new.self (Planet at) (Planet copy.planet.at) (run_until rules (limit - 1) (planet_stand old)) (planet_stand copy)
    runs (ap Planet (c.in_ok-run_planet.ensures.at ∙ own)) c.in_ok-run_planet.ensures.stand puts)) c.put_planet.ensures.puts
