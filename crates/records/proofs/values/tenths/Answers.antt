use Rattle.std.proofs.Common.{ap}
use Rattle.std.specs.Prelude.{Some}
use Rattle.catalog.proofs.Values.{tenths_is}
use Rattle.records.proofs.values.tenths.Goals as goal

pub returns : goal.returns
returns c = λ tenths is. ap Some (tenths_is _ tenths is)
