use Rattle.std.proofs.Common.{sym, ap, ◌∙◌}
use Rattle.closure.specs.Directory.{cells_of}
use Rattle.closure.specs.Lists.{has}
use Rattle.closure.proofs.Naming.{account_listed, planet_listed}
use Rattle.closure.proofs.places.Places.has.Goals as goal

pub returns-in-Account : goal.returns-in-Account
returns-in-Account c = c.has_player.ensures ∙ sym (account_listed c.args.self.now c.in-Account.player) ∙ ap (has (cells_of c.args.self.now)) (sym c.in-Account.is)

pub returns-in-Planet : goal.returns-in-Planet
returns-in-Planet c = c.has_planet.ensures ∙ sym (planet_listed c.args.self.now c.in-Planet.at) ∙ ap (has (cells_of c.args.self.now)) (sym c.in-Planet.is)
