use Rattle.catalog.proofs.Words.{read_member}
use Rattle.catalog.proofs.classes.Class.read.Goals as goal

pub returns : goal.returns
returns g c = read_member g.Self.Class.kind_of g.Self.Class.has g.met.Self.Class.belongs c.args.word.now c.in_ok-read.field-0 c.of.result c.in_ok-read.ensures c.of.ensures
