use Rattle.std.proofs.Common.{ap}
use Rattle.std.specs.Prelude.{Some}
use Rattle.records.specs.declared.fields.Place.{Place}
use Rattle.base_ids.proofs.Names.{system_is}
use Rattle.records.proofs.values.system.Goals as goal

pub returns : goal.returns
returns c = λ at is. ap Some (system_is _ at (ap (λ (l : Place). l.g) is) (ap (λ (l : Place). l.s) is))
