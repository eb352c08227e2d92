use Rattle.std.proofs.Common.{◌∙◌, ap}
use Rattle.fleet_rec.proofs.Raids.{fight_from}
use Rattle.fleet_rec.specs.Fleets.{after_battle}
use Rattle.fleet_rec.proofs.fleets.Fleets.fight.Goals as goal

pub returns : goal.returns
returns c = c.keep_left.ensures ∙ fight_from _ _ _ _ c.turn_in.ensures ∙ ap (after_battle _ _) c.self.view_is
