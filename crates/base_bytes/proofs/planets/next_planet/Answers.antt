use Rattle.std.proofs.Common.{◌++◌, ◌∙◌}
use Rattle.base_bytes.specs.Spelling.{goods_bytes, ground_bytes, works_bytes}
use Rattle.records.proofs.Pieces.{open_3}
use Rattle.base_bytes.proofs.planets.next_planet.Goals as goal

pub returns : goal.returns
returns c = λ planet more fits is.
    let text = is ∙ open_3 (ground_bytes planet) (goods_bytes planet) (works_bytes planet) more in
    let after_2 = works_bytes planet ++ more in
    let after_1 = goods_bytes planet ++ after_2 in
    let ground = c.next_ground-ground.ensures planet after_1 fits.ground text in
    let goods = c.next_goods-goods.ensures planet after_2 fits.goods ground.1 in
    let works = c.in_ok-works.ensures planet more fits.works goods.1 in
    (c.planet_of.ensures planet ground.0 goods.0 works.0, works.1)
