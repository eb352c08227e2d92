use Rattle.std.proofs.Common.{◌≡◌, true, Bool, cond, ap, ◌∙◌}
use Rattle.base_ids.specs.declared.cell_id.CellId.TheVariants.{Planet as PlanetId}
use Rattle.base_ids.specs.declared.coord.Coord.{Coord}
use Rattle.fleet_rec.specs.Fleet.{fleet_seen}
use Rattle.tick_model.specs.Flights.{landing}
use Rattle.happenings.specs.Held.{holds}
use Rattle.happenings.proofs.Fresh.{first_lands, goes_back}
use Rattle.happenings.proofs.tests.a_transport_unloads_and_turns_back.Goals as goal

pub land-requires-clause-land : goal.land-requires-clause-land
land-requires-clause-land g c =
    let fleet = c.transport-fleet.result in
    let sent = c.transport-fleet.ensures in
    let old = c.in_ok-cells.cells in
    let lands_at = ap (λ (b : Bool). cond b fleet.target fleet.origin) sent.outbound ∙ sent.target in
    let there : holds old (PlanetId (landing (fleet_seen fleet))) ≡ true = ap (λ (at : Coord). holds old (PlanetId at)) lands_at ∙ c.in_ok-cells.ensures.target in
    first_lands old c.join_fleet.new.self (fleet_seen fleet) c.in_ok-cells.ensures.fresh c.in_ok-join_fleet.ensures.joins there (goes_back (fleet_seen fleet) sent.outbound sent.mission)
