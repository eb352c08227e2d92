use Rattle.std.proofs.Common.{ap, ◌∙◌, sym, subst, filter}
use Rattle.std.specs.Prelude.{option_map}
use Rattle.base_ids.specs.declared.cell_id.CellId.TheVariants.{Planet as PlanetId}
use Rattle.fleet_rec.specs.Fleet.{cargo_seen, fleet_seen}
use Rattle.fleet_rec.specs.Fleets.{AreOutbound, after_landing}
use Rattle.happenings.specs.Held.{planet_stand}
use Rattle.happenings.specs.declared.held.PlanetCell.{PlanetCell}
use Rattle.happenings.proofs.Landed.{planet_left}
use Rattle.tick_model.specs.Views.{belongs}
use Rattle.happenings.proofs.held.PlanetCell.leave.Goals as goal

pub land-requires : goal.land-requires
land-requires c cargo is = subst (AreOutbound c.args.fleet.now.number) (sym c.gain_to.ensures.fleets) (c.requires.flies cargo is)

pub returns-clause-stand : goal.returns-clause-stand
returns-clause-stand c =
    let fleet = fleet_seen c.args.fleet.now in
    let back = option_map cargo_seen c.args.back in
    let old = c.args.self.now in
    let mid = c.gain_to.new.self in
    let new : PlanetCell = record mid { fleets = c.keep.new.self } in
    let at = c.gain_to.ensures.at in
    let fleets = c.keep.ensures ∙ ap (filter (belongs (PlanetId mid.planet.at))) c.land.ensures ∙ ap (λ p. filter (belongs (PlanetId p)) (after_landing fleet.number back mid.fleets)) at in
    planet_left c.args.rules.now fleet back (PlanetId old.planet.at) old mid new c.gain_to.ensures.stand
    (λ i. record (planet_stand mid) { seen = record (planet_stand mid).seen { fleets = fleets i } })
