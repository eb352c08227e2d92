use Rattle.std.proofs.Common.{◌≡◌, ◌∙◌, length, ap, arith}
use Rattle.std.specs.Prelude.{if◌then◌else◌, is_ok, unwrap_or}
use Rattle.std.specs.List.{insert, position}
use Rattle.base_ids.specs.Order.{coord_before}
use Rattle.founding.proofs.Putting.{put-position}
use Rattle.founding.proofs.filing.insert_place.Goals as goal

pub returns-clause-items : goal.returns-clause-items
returns-clause-items c =
    let places = c.args.places.now.items in
    let behind = c.first_behind.ensures ∙ ap (position (coord_before c.args.at)) c.deref.ensures.value in
    let end : c.len.result ≡ length places = omega (arith, c.len.ensures) in
    let index = c.unwrap_or-index.ensures ∙ (λ i. unwrap_or (behind i) (end i)) in
    c.insert.ensures.items
    ∙ ap (λ r. if is_ok r then insert places c.unwrap_or-index.result c.args.at else places) c.unwrap.ensures
    ∙ ap (λ n. insert places n c.args.at) index
    ∙ put-position coord_before c.args.at places
