use Rattle.std.proofs.Common.{refl}
use Rattle.lazy.proofs.Filling.{keeps-base}
use Rattle.lazy.proofs.universe.LazyUniverse.new.Goals as goal

pub returns : goal.returns
returns c =
    keeps-base c.args.base.now _ c.requires refl refl refl refl c.in_ok-places_of.ensures.players c.in_ok-places_of.ensures.planets c.in_ok-cells_of.ensures
