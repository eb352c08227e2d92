use Rattle.std.proofs.Common.{sym, ◌∙◌}
use Rattle.fleet_rec.proofs.Raids.{all_out}
use Rattle.fleet_rec.proofs.tests.all_fly_out.Goals as goal

pub returns : goal.returns
returns c = λ all. all_out c.as_slice.result.now c.args.fleets.now c.as_slice.ensures (sym c.fly_out.ensures ∙ all)
