use Rattle.std.proofs.Common.{ap, ◌∙◌, ◌+◌, min, take, map, [], sum}
use Rattle.std.specs.Prelude.{if◌then◌else◌}
use Rattle.base_bytes.specs.Counting.{count_in, player_order}
use Rattle.std.specs.BTreeMap.{get}
use Rattle.base_ids.specs.Cells.{same_player}
use Rattle.base_bytes.proofs.Gathering.{fleet-counts, planet-counts}
use Rattle.base_bytes.proofs.tallies.units_by_owner.Goals as goal

pub planets-preserved : goal.planets-preserved
planets-preserved c = λ player.
    let count = count_in (get player_order c.planets.counts player) in
    c.in_ok-add_units.ensures player
    ∙ ap (λ n. if same_player c.planet-item.result.owner player then min (count + n) 18446744073709551615 else count) c.units_of.ensures
    ∙ planet-counts player c.args.planets.now c.planets.planet-index c.planet-item.result count c.planets-test.true c.planet-item.is (c.planets.invariant player)

pub fleets-preserved : goal.fleets-preserved
fleets-preserved c = λ player.
    let count = count_in (get player_order c.fleets.counts player) in
    c.in_ok-add_units-2.ensures player
    ∙ ap (λ n. if same_player c.fleet-item.result.owner player then min (count + n) 18446744073709551615 else count) (c.from.ensures ∙ c.ship_total.ensures.value)
    ∙ fleet-counts player c.args.planets.now c.args.fleets.now c.fleets.fleet-index c.fleet-item.result count c.fleets-test.true c.fleet-item.is (c.fleets.invariant player)
