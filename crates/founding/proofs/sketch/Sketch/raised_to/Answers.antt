use Rattle.std.proofs.Common.{arith, refl, rules, replicate, sym}
use Rattle.founding.proofs.Bounded.{written-fields}
use Rattle.founding.proofs.sketch.Sketch.raised_to.Goals as goal

pub invariant_of-self : goal.invariant_of-self
invariant_of-self c =
    let self = c.args.self in
    record {
      coldest = self.coldest;
      hottest = self.hottest;
      within_cap = self.within_cap;
      within_levels = search rules;
      kinds = self.kinds;
      within_units = self.within_units;
      within_fields = written-fields self.levels c.place_of.result c.args.level.level self.fields c.requires;
      lone_domes = self.lone_domes;
    }
