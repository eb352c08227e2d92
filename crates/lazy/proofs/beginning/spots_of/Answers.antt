use Rattle.std.proofs.Common.{rules}
use Rattle.std.proofs.lemmas.Iterator.{YieldsList-from_map_by, YieldsList-from_slice, items_from_collect}
use Rattle.lazy.proofs.beginning.spots_of.Goals as goal

pub returns : goal.returns
returns c =
    items_from_collect c.collect.result c.collect.ensures.ran
    (YieldsList-from_map_by _ _ _ (YieldsList-from_slice c.args.planets.now cc) c.map.ensures.closure (λ x r q k. search rules))
