use Rattle.std.proofs.Common.{◌≡◌, true, filter, ap, ◌∙◌, sym, subst}
use Rattle.base_ids.specs.Cells.{same_cell}
use Rattle.base_ids.specs.declared.cell_id.CellId.TheVariants.{Planet as PlanetId}
use Rattle.fleet_rec.specs.Fleets.{MayFight, after_battle}
use Rattle.happenings.specs.Fighting.{CanSettle}
use Rattle.happenings.specs.declared.held.PlanetCell.{PlanetCell}
use Rattle.happenings.proofs.Fought.{fields_grown, fleets_grown, planet_left_so}
use Rattle.happenings.specs.Held.{planet_stand}
use Rattle.tick_model.specs.Views.{belongs}
use Rattle.happenings.proofs.held.PlanetCell.fought.Goals as goal

pub fight-requires : goal.fight-requires
fight-requires c =
    let battle = c.args.battle.now in
    let fleets = fleets_grown c.args.rules.now battle.second c.args.self.now c.in_ok-cell.cell c.in_ok-cell.ensures.stand in
    subst (MayFight battle.raid) (sym fleets) c.requires.fight

pub settle-requires : goal.settle-requires
settle-requires c here =
    let battle = c.args.battle.now in
    let fields = fields_grown c.args.rules.now battle.second c.args.self.now c.in_ok-cell.cell c.in_ok-cell.ensures.stand in
    subst (CanSettle battle) (sym fields) (c.requires.settle (ap (λ at. same_cell (PlanetId battle.target) (PlanetId at)) (sym c.in_ok-cell.ensures.at) ∙ here))

pub returns-clause-stand : goal.returns-clause-stand
returns-clause-stand c =
    let battle = c.args.battle.now in
    let cell = c.in_ok-cell.cell in
    let mid : PlanetCell = record cell { fleets = c.keep.new.self } in
    let flown = c.keep.ensures ∙ ap (filter (belongs (PlanetId cell.planet.at))) c.fight.ensures in
    planet_left_so c.args.rules.now battle c.args.self.now cell mid c.settle.new.self c.in_ok-cell.ensures.stand c.in_ok-cell.ensures.at
    (λ i. record (planet_stand mid) { seen = record (planet_stand mid).seen { fleets = flown i } }) c.settle.ensures.stand
