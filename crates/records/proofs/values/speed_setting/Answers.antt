use Rattle.std.proofs.Common.{ap}
use Rattle.std.specs.Prelude.{Some}
use Rattle.catalog.proofs.Values.{setting_is}
use Rattle.records.proofs.values.speed_setting.Goals as goal

pub returns : goal.returns
returns c = λ setting is. ap Some (setting_is _ setting is)
