use Rattle.std.proofs.Common.{Some, ap, subst, ◌∙◌, ◌∷◌, [], ◌++◌}
use Rattle.std.specs.BTreeMap.{Updates}
use Rattle.base_bytes.specs.Counting.{places_in, player_order}
use Rattle.base_bytes.proofs.Gathering.{listed-more}
use Rattle.base_bytes.proofs.places.add_place.Goals as goal

pub returns-in_ok-insert-in-None : goal.returns-in_ok-insert-in-None
returns-in_ok-insert-in-None c =
    let places = c.in_ok-vec-in-None.field-0 in
    let updates = subst (λ m. Updates player_order m c.insert.new.self c.args.owner (Some places)) c.get_mut.follows.holds-at-none c.in_ok-insert-in-None.ensures.updates in
    listed-more c.args.owners.now c.insert.new.self c.args.owner c.args.at places updates
    (c.in_ok-vec-in-None.ensures.items ∙ ap (λ l. l ++ c.args.at ∷ []) (ap places_in c.in-None.ensures.value))
