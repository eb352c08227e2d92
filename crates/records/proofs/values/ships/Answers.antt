use Rattle.std.proofs.Common.{ap}
use Rattle.std.specs.Prelude.{Some}
use Rattle.catalog.proofs.Values.{ships_is}
use Rattle.records.proofs.values.ships.Goals as goal

pub returns : goal.returns
returns c = λ ships is. ap Some (ships_is _ ships is)
