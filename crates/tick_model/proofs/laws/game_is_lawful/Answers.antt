use Rattle.tick_model.proofs.GameLaws.{game_laws}
use Rattle.tick_model.proofs.laws.game_is_lawful.Goals as goal

pub returns : goal.returns
returns c = game_laws
