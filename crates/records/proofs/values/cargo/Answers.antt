use Rattle.std.proofs.Common.{ap}
use Rattle.std.specs.Prelude.{Some}
use Rattle.catalog.proofs.Values.{amounts_is}
use Rattle.records.proofs.values.cargo.Goals as goal

pub returns : goal.returns
returns c = λ cargo metal crystal deuterium. ap Some (amounts_is _ cargo metal crystal deuterium)
