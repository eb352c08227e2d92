use Rattle.std.proofs.Common.{◌≡◌, ◌≤◌, ◌*◌, ◌^◌, take}
use Rattle.std.specs.Prelude.{◌==◌, if◌then◌else◌, sum_by}
use Rattle.catalog.specs.Kinds.{kind_number}
use Rattle.planet_cell.specs.declared.batch.Batch.{Batch}
use Rattle.base_bytes.proofs.planet_rules.ordered.Given as goal

abbrev pub invariant-batches : goal.invariant-batches
invariant-batches l = record {
  total : l.total ≡ sum_by (λ (batch : Batch). if kind_number batch.kind.kind == kind_number l.unit.kind then batch.left else 0) (take l.batch-index l.yard);
  small : l.total ≤ 2 ^ 32 * l.batch-index;
}
