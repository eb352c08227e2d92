-- How many of some fleets are a player's.
use Rattle.std.proofs.Common.{ℕ, ◌<◌, List, length, map, not, refl, take, arith}
use Rattle.std.proofs.lemmas.List.{length-map, length-take-le}
use Rattle.std.proofs.lemmas.List.Filters.{length-filter_both}
use Rattle.base_ids.specs.Cells.{same_player}
use Rattle.base_ids.specs.declared.player.Player.{Player}
use Rattle.fleet_rec.specs.Fleet.{fleet_seen}
use Rattle.fleet_rec.specs.declared.fleet.Fleet.{Fleet as FleetRecord}
use Rattle.tick_model.specs.Lines.{own_fleets}
use Rattle.tick_model.specs.Universe.{Fleet}

-- of those before a fleet there are fewer than all
pub own-fewer : (player : Player) (held : List FleetRecord) (i : ℕ) → i < length held → length (own_fleets player (map fleet_seen (take i held))) < length held
own-fewer player held i below =
    let seen = map fleet_seen (take i held) in
    let both = length-filter_both (λ (f : Fleet). same_player f.owner player) (λ f. not (same_player f.owner player)) (λ f. refl) seen in
    let long = length-map (take i held) fleet_seen in
    let short = length-take-le i held (omega (arith, below)) in
    omega (arith, below, both, long, short)
