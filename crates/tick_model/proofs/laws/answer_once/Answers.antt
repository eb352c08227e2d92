use Rattle.std.proofs.Common.{[], refl}
use Rattle.tick_model.proofs.Once.{talks_once}
use Rattle.tick_model.proofs.laws.answer_once.Goals as goal

pub returns : goal.returns
returns c = λ base script history other lacking readings bytes others legal other_legal talk other_talk.
    talks_once base [] base.state.number base.moment history other script lacking readings readings bytes others refl legal other_legal talk other_talk
