use Rattle.std.proofs.Common.{◌≡◌, drop}
use Rattle.disk_port.specs.History.{marked_after}
use Rattle.disk_port.proofs.memory.marked.Given as goal

abbrev pub invariant-changes : goal.invariant-changes
invariant-changes l = marked_after l.byte l.marked.items (drop l.change-index l.changes) ≡ marked_after l.byte l.content l.changes
