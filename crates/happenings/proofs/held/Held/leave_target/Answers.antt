use Rattle.std.proofs.Common.{◌∙◌, sym}
use Rattle.std.specs.Prelude.{option_map}
use Rattle.base_ids.specs.declared.cell_id.CellId.TheVariants.{Planet as PlanetId}
use Rattle.fleet_rec.specs.Fleet.{cargo_seen, fleet_seen}
use Rattle.happenings.proofs.Left.{home_stays, other_left}
use Rattle.happenings.proofs.held.Held.leave_target.Goals as goal

pub leave_planet-requires-clause-leave : goal.leave_planet-requires-clause-leave
leave_planet-requires-clause-leave c = c.requires.leave (sym c.is_home.ensures ∙ c.if-is_home.false)

pub returns-then-is_home-clause-leaves : goal.returns-then-is_home-clause-leaves
returns-then-is_home-clause-leaves c =
    home_stays c.args.rules.now (fleet_seen c.args.fleet.now) (option_map cargo_seen c.args.back) c.args.self.now (PlanetId c.args.fleet.now.target) (sym c.is_home.ensures ∙ c.if-is_home.true)

pub returns-clause-leaves : goal.returns-clause-leaves
returns-clause-leaves c =
    other_left c.args.rules.now (fleet_seen c.args.fleet.now) (option_map cargo_seen c.args.back) c.args.self.now c.leave_planet.new.self (PlanetId c.args.fleet.now.target)
    (sym c.is_home.ensures ∙ c.if-is_home.false) c.leave_planet.ensures.leaves
