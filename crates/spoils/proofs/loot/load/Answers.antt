use Rattle.std.proofs.Common.{refl}
use Rattle.spoils.proofs.StepLaws.{whole}
use Rattle.spoils.proofs.loot.load.Goals as goal

pub returns-clause-steps : goal.returns-clause-steps
returns-clause-steps c =
    record {
      steps = record {
        first_metal = c.share-first_metal.result;
        first_crystal = c.share-first_crystal.result;
        first_deuterium = c.min-deuterium.result;
        second_metal = c.share-second_metal.result;
        second_crystal = c.min-second_crystal.result;
      };
      shares = record {
        first_metal = c.share-first_metal.ensures.bounds;
        first_crystal = c.share-first_crystal.ensures.bounds;
        first_deuterium = whole _ _ _ c.min-deuterium.ensures;
        second_metal = c.share-second_metal.ensures.bounds;
        second_crystal = whole _ _ _ c.min-second_crystal.ensures;
      };
      metal = refl;
      crystal = refl;
      deuterium = refl;
    }
