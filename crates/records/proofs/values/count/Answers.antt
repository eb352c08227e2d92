use Rattle.std.proofs.Common.{ap}
use Rattle.std.specs.Prelude.{Some}
use Rattle.catalog.proofs.Values.{count_is}
use Rattle.records.proofs.values.count.Goals as goal

pub returns : goal.returns
returns c = λ count is. ap Some (count_is _ count is)
