use Rattle.std.proofs.Common.{ap}
use Rattle.std.specs.Prelude.{Some}
use Rattle.base_ids.proofs.Names.{fleet_is}
use Rattle.records.proofs.values.fleet_number.Goals as goal

pub returns : goal.returns
returns c = λ fleet is. ap Some (fleet_is _ fleet is)
