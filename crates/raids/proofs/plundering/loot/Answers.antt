use Rattle.std.proofs.Common.{map, arith, ap}
use Rattle.fleet_rec.specs.Fleet.{cargo_seen, fleet_seen}
use Rattle.rates.specs.declared.resources.Resources.{Resources}
use Rattle.raids.proofs.Shares.{loot_is}
use Rattle.raids.proofs.plundering.loot.Goals as goal

pub returns-clause-value : goal.returns-clause-value
returns-clause-value c =
    let metal = ap (λ (r : Resources). r.metal) c.whole_units-there.ensures in
    let crystal = ap (λ (r : Resources). r.crystal) c.whole_units-there.ensures in
    let deuterium = ap (λ (r : Resources). r.deuterium) c.whole_units-there.ensures in
    loot_is (map fleet_seen c.args.fleets.now) c.args.stock c.whole_units-there.result c.room_of.result (cargo_seen c.load.result) c.room_of.ensures c.whole_units-there.ensures
    (omega (arith, metal, c.requires.metal)) (omega (arith, crystal, c.requires.crystal)) (omega (arith, deuterium, c.requires.deuterium)) c.load.ensures.metal c.load.ensures.crystal c.load.ensures.deuterium
