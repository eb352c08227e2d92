use Rattle.std.proofs.Common.{◌≡◌, ◌≤◌, ◌*◌, ◌^◌, sum, take}
use Rattle.base_bytes.proofs.ranges.standing.Given as goal

abbrev pub invariant-units : goal.invariant-units
invariant-units l = record { total : l.total ≡ sum (take l.count-index l.units); small : l.total ≤ 2 ^ 32 * l.count-index }
