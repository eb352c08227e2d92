use Rattle.std.proofs.Common.{rules, ◌∙◌}
use Rattle.std.proofs.lemmas.List.Sorted.{answers_always}
use Rattle.base_ids.specs.Cells.{same_coord}
use Rattle.base_ids.specs.Order.{coord_before}
use Rattle.closure.proofs.Comparing.{coord_cmp, coords_follow}
use Rattle.closure.proofs.Searching.{searched}
use Rattle.closure.proofs.places.Places.has_planet.Goals as goal

-- the closure gives what the planets rise by, and the slice is all planets
pub returns : goal.returns
returns c =
    let facts = c.binary_search_by_key.ensures in
    let by_key = facts.position (λ spot. spot.at) (answers_always _ _ _ (λ f a r g called. search rules)) in
    c.is_ok.ensures.value
    ∙ searched (λ spot. spot.at) coord_cmp coord_before same_coord coords_follow c.args.self.now.planets.items c.deref.result.now c.args.at _ c.args.self.now.planets_rise c.deref.ensures.value facts.bound by_key
