use Rattle.records.proofs.KindNumbers.{found_kind}
use Rattle.records.proofs.values.kind.Goals as goal

pub returns : goal.returns
returns c = λ kind is. found_kind c.args.number c.numbered.result kind c.numbered.ensures is
