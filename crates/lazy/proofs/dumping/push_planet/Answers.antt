use Rattle.std.proofs.Common.{◌++◌, ap, ◌∙◌}
use Rattle.tick_model.specs.Dump.{link_lines}
use Rattle.lazy.proofs.Links.{done_map, planet-there}
use Rattle.lazy.proofs.dumping.push_planet.Goals as goal

pub returns : goal.returns
returns c =
    let cell = c.args.cell.now in
    let named = c.push_planet_name.new.text in
    let told = c.in_ok-push.ensures.ok ∙ ap (λ lines. named ++ lines) (c.as_slice.ensures ∙ c.in_ok-lines.ensures) in
    done_map c.push_links.result _ _ (λ links setting same.
    planet-there setting c.args.rules.now cell c.args.text.now named c.push.new.self c.push_links.new.text same c.in_ok-push_planet_name.ensures told
    (links ∙ ap (λ fleets. c.push.new.self ++ link_lines fleets) c.as_slice-2.ensures)) c.push_links.ensures
