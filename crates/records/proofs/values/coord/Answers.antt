use Rattle.std.proofs.Common.{ap}
use Rattle.std.specs.Prelude.{Some}
use Rattle.records.specs.declared.fields.Place.{Place}
use Rattle.base_ids.proofs.Names.{coord_is}
use Rattle.records.proofs.values.coord.Goals as goal

pub returns : goal.returns
returns c = λ at is. ap Some (coord_is _ at (ap (λ (l : Place). l.g) is) (ap (λ (l : Place). l.s) is) (ap (λ (l : Place). l.p) is))
