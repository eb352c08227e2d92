use Rattle.std.proofs.Common.{All, subst}
use Rattle.std.specs.Prelude.{◌↔◌, IsTrue}
use Rattle.base_bytes.specs.Sound.{IsSoundFleet}
use Rattle.base_bytes.proofs.fleet_rules.all_fleets_sound.Goals as goal

pub returns : goal.returns
returns c = subst (λ fleets. IsTrue c.are_sound.result ↔ All (IsSoundFleet c.args.base.now) fleets) c.as_slice.ensures c.are_sound.ensures
