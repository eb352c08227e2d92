use Rattle.std.proofs.Common.{ap}
use Rattle.std.specs.Prelude.{Some}
use Rattle.base_ids.proofs.Names.{player_is}
use Rattle.records.proofs.values.player.Goals as goal

pub returns : goal.returns
returns c = λ player is. ap Some (player_is _ player is)
