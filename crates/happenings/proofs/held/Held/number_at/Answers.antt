use Rattle.base_ids.specs.Cells.{same_cell}
use Rattle.base_ids.specs.declared.cell_id.CellId.TheVariants.{Account as AccountId, Planet as PlanetId}
use Rattle.happenings.proofs.Numbered.{number_more}
use Rattle.happenings.proofs.held.Held.number_at.Goals as goal

pub returns-clause-numbers : goal.returns-clause-numbers
returns-clause-numbers c =
    number_more c.args.number (same_cell (PlanetId c.args.at)) (same_cell (AccountId c.args.player)) c.args.self.now c.number_planet_fleet.new.self c.number_account_fleet.new.self
    c.number_planet_fleet.ensures.numbers c.number_account_fleet.ensures.numbers
