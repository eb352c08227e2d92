use Rattle.lazy.proofs.Texts.{dump-ok, if_map}
use Rattle.lazy.proofs.universe.LazyUniverse.dump.Goals as goal

pub returns : goal.returns
returns c = if_map c.text_of.result _ _ (λ text told base history keeps. dump-ok base history c.args.self.now text keeps told) c.text_of.ensures
