use Rattle.std.proofs.Common.{rules, arith, ◌≡◌, take, ap, ◌∙◌, length}
use Rattle.std.proofs.lemmas.List.{take_all}
use Rattle.happenings.specs.Queues.{seen_held}
use Rattle.lazy.specs.Taking.{planets_seen}
use Rattle.lazy.proofs.Taken.{next_spot, spots_named, system_taken}
use Rattle.lazy.proofs.taking.take_system.Goals as goal

pub spots-preserved : goal.spots-preserved
spots-preserved c =
    next_spot c.in-System.system (seen_held c.args.cells.now) c.args.places.now.planets.items c.spots.spot-index c.spots.seen.items c.push_seen.new.seen.items c.spot-item.result
    (search rules) (search rules) c.spots.invariant c.in_ok-push_seen.ensures

pub returns : goal.returns
returns c =
    let spots = c.args.places.now.planets.items in
    let all : take c.spots.spot-index spots ≡ spots = take_all c.spots.spot-index spots (search rules) in
    system_taken c.args.req.now c.in-System.system (seen_held c.args.cells.now) c.args.places.now c.spots.seen.items c.in-System.is
    (c.spots.invariant ∙ ap (λ xs. planets_seen c.in-System.system (spots_named xs) (seen_held c.args.cells.now)) all)
