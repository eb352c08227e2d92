use Rattle.fronts.proofs.Opening.{opens}
use Rattle.fronts.proofs.opened.Opened.new.Goals as goal

pub of_words-requires : goal.of_words-requires
of_words-requires g c = opens g.O.Origin.start c.args.found c.requires.count c.requires.legal
