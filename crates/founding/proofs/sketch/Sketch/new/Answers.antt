use Rattle.std.proofs.Common.{arith, refl, rules, replicate}
use Rattle.planet_cell.proofs.Caps.{caps_fresh}
use Rattle.founding.proofs.Bounded.{no-domes}
use Rattle.founding.proofs.sketch.Sketch.new.Goals as goal

pub invariant_of-result : goal.invariant_of-result
invariant_of-result c = record {
  coldest = search rules;
  hottest = search rules;
  within_cap = search rules;
  within_levels = caps_fresh;
  kinds = refl;
  within_units = omega arith;
  within_fields = omega arith;
  lone_domes = no-domes;
}
