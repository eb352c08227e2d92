use Rattle.lazy.proofs.Texts.{if_map}
use Rattle.ticking.proofs.Answered.{text-is}
use Rattle.ticking.proofs.universe.TickingUniverse.dump.Goals as goal

pub returns : goal.returns
returns c = if_map c.text_of.result _ _ (λ text told base history stands. text-is base history c.args.self.now text stands told) c.text_of.ensures
