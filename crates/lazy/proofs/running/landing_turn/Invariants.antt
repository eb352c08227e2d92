-- The second of the first landing so far; with the fleets that are left it is that of all.
use Rattle.std.proofs.Common.{◌≡◌, ◌≤◌, drop, map}
use Rattle.base_ids.specs.declared.cell_id.CellId.TheVariants.{Planet}
use Rattle.fleet_rec.specs.Fleet.{fleet_seen}
use Rattle.lazy.specs.Running.{landing_second}
use Rattle.lazy.proofs.running.landing_turn.Given as goal

abbrev pub invariant-fleets : goal.invariant-fleets
invariant-fleets l = record {
  value : landing_second l.first (Planet l.at) (map fleet_seen (drop l.fleet-index l.fleets)) ≡ landing_second l.limit (Planet l.at) (map fleet_seen l.fleets);
  within : l.first ≤ l.limit;
}
