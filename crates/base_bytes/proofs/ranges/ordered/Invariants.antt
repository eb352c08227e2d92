use Rattle.std.proofs.Common.{◌≡◌, ◌≤◌, ◌*◌, ◌^◌, take}
use Rattle.planet_cell.specs.Bounds.{left_in}
use Rattle.base_bytes.proofs.ranges.ordered.Given as goal

abbrev pub invariant-batches : goal.invariant-batches
invariant-batches l = record { total : l.total ≡ left_in (take l.batch-index l.yard); small : l.total ≤ 2 ^ 32 * l.batch-index }
