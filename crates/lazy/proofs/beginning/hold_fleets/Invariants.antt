-- The fleets so far have joined those of their cells.
use Rattle.std.proofs.Common.{map, take}
use Rattle.base_bytes.specs.Base.{setting_of}
use Rattle.fleet_rec.specs.Fleet.{fleet_seen}
use Rattle.lazy.specs.Beginning.{HoldsWith}
use Rattle.lazy.proofs.beginning.hold_fleets.Given as goal

abbrev pub invariant-fleets : goal.invariant-fleets
invariant-fleets l = HoldsWith l.base (map fleet_seen (take l.fleet-index l.fleet-items)) (setting_of l.base).cells l.cells
