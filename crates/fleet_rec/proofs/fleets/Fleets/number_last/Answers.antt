use Rattle.std.proofs.Common.{◌≡◌, ◌+◌, ◌-◌, ◌<◌, ◌∙◌, ap, arith, length}
use Rattle.std.proofs.lemmas.List.{length-map}
use Rattle.fleet_rec.proofs.Changed.{numbered_seen}
use Rattle.fleet_rec.specs.Fleet.{fleet_seen}
use Rattle.fleet_rec.specs.Fleets.{last_numbered}
use Rattle.fleet_rec.proofs.fleets.Fleets.number_last.Goals as goal

pub returns : goal.returns
returns c =
    let fleets = c.self.inside.items in
    let place = c.len-last.result - 1 in
    let some : 0 < length fleets.items = omega (arith, length-map fleets.items fleet_seen, ap length c.self.view_is, c.requires.some) in
    let spot : place + 1 ≡ length fleets.items = omega (arith, c.len-last.ensures) in
    numbered_seen c.args.number fleets.items place c.index.result.now c.numbered.result spot c.index.ensures c.numbered.ensures
    ∙ ap (last_numbered c.args.number) c.self.view_is
