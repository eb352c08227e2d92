use Rattle.std.proofs.Common.{◌≡◌, ◌++◌, drop, map}
use Rattle.fleet_rec.specs.Fleet.{fleet_seen}
use Rattle.tick_model.specs.Lines.{fleet_lines, own_fleets}
use Rattle.orders.proofs.writing.push_own_fleets.Given as goal

abbrev pub invariant-fleets : goal.invariant-fleets
invariant-fleets l =
    l.body ++ fleet_lines (own_fleets l.player (map fleet_seen (drop l.fleet-index l.fleets))) ≡ l.initial.body ++ fleet_lines (own_fleets l.player (map fleet_seen l.fleets))
