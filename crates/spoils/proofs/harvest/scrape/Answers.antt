use Rattle.std.proofs.Common.{refl}
use Rattle.spoils.proofs.StepLaws.{whole}
use Rattle.spoils.proofs.harvest.scrape.Goals as goal

pub returns-clause-steps : goal.returns-clause-steps
returns-clause-steps c =
    record {
      steps = record {
        first_metal = c.share-first_metal.result;
        first_crystal = c.min-crystal.result;
        second_metal = c.min-second_metal.result;
      };
      shares = record {
        first_metal = c.share-first_metal.ensures.bounds;
        first_crystal = whole _ _ _ c.min-crystal.ensures;
        second_metal = whole _ _ _ c.min-second_metal.ensures;
      };
      metal = refl;
      crystal = refl;
      deuterium = refl;
    }
