use Rattle.std.proofs.Common.{rules, ◌≡◌, true}
use Rattle.std.proofs.lemmas.List.Sorted.{answers_always}
use Rattle.base_ids.specs.Order.{coord_before}
use Rattle.planet_cell.specs.declared.planet.Planet.{Planet}
use Rattle.base_ids.proofs.Ordering.{coords_ordered}
use Rattle.base_bytes.proofs.Neighbours.{rises-answer}
use Rattle.base_bytes.proofs.rising.planets_rise.Goals as goal

pub returns : goal.returns
returns c =
    let before = λ (a b : Planet). coord_before a.at b.at in
    let through = λ (a b d : Planet). coords_ordered.transitive a.at b.at d.at in
    rises-answer before through c.args.planets.now c.is_sorted_by.result (c.is_sorted_by.ensures.cases before (answers_always _ _ _ (λ f a r g called. search rules)))
