use Rattle.std.proofs.Common.{◌≤◌, ◌+◌}
use Rattle.std.specs.List.{AllWithin}
use Rattle.planet_cell.specs.declared.batch.Batch.{Batch}
use Rattle.base_bytes.proofs.planet_rules.are_timed.Given as goal

abbrev pub invariant-batches : goal.invariant-batches
invariant-batches l = AllWithin (λ (batch : Batch). batch.second ≤ l.moment + batch.unit_seconds) l.yard 0 l.batch-index
