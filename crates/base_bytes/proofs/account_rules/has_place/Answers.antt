use Rattle.std.specs.Prelude.{◌==◌, ◌&&◌}
use Rattle.std.proofs.lemmas.List.Elements.{Decides-contains, contains_decides}
use Rattle.base_bytes.proofs.AccountChecks.{tells_places}
use Rattle.base_ids.specs.declared.coord.Coord.{Coord}
use Rattle.base_bytes.proofs.account_rules.has_place.Goals as goal

pub returns : goal.returns
returns c =
    let places = c.args.places.now in
    let at = c.args.at in
    Decides-contains places at c.contains.result
    (contains_decides (λ (a b : Coord). a.g == b.g && (a.s == b.s && a.p == b.p)) tells_places places at c.contains.result c.contains.ensures.cases)
