use Rattle.tick_model.proofs.Worlds.{reply-moment, reply-number}
use Rattle.tick_model.proofs.laws.replies_are_numbered.Goals as goal

pub returns : goal.returns
returns c = λ base history entry legal. (reply-number base history entry legal, reply-moment base history entry)
