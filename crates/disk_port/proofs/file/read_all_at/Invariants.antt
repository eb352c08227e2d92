use Rattle.std.proofs.Common.{◌≤◌, ◌-◌, length}
use Rattle.disk_port.proofs.file.read_all_at.Given as goal

abbrev pub invariant-pieces : goal.invariant-pieces
invariant-pieces l = l.read ≤ length l.into

abbrev pub decreases-pieces : goal.decreases-pieces
decreases-pieces l = length l.into - l.read
