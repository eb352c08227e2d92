-- What holds of a journal's numbers at any time.
use Rattle.std.specs.Prelude.{ℕ, ◌+◌, ◌*◌, ◌≤◌, List, length, All}
use Rattle.base_ids.specs.declared.numbers.TheConstants.{LAST_NUMBER}
use Rattle.journal_store.specs.Gates.{batch_size}
use Rattle.journal_store.specs.declared.batch.TheConstants.{BATCH, ROOM}
use Rattle.journal_store.specs.declared.gate.Gate.{Gate}
use Rattle.journal_store.specs.declared.start.TheConstants.{LAST_START}
use Rattle.ports.specs.declared.clock.TheConstants.{LATEST}
use Rattle.records.specs.Ranges.{IsInRange}
use Rattle.request_text.specs.declared.entry.Entry.{Entry}

-- the numbers are in their ranges, and there is room for one batch
pub record Fits (last_number last_moment capacity durable : ℕ) (pending : List Entry) (gate : Gate) (end room : ℕ) : Type 0 where
  pub number : last_number ≤ LAST_NUMBER
  pub moment : last_moment ≤ LATEST
  pub count : durable + length pending ≤ capacity
  pub spelled : All IsInRange pending
  -- a batch that is staged has some of the first pending entries, and at least one
  pub staged : batch_size gate (length pending) ≤ length pending
  pub most : batch_size gate (length pending) ≤ BATCH
  pub some : 1 ≤ batch_size gate (length pending + 1)
  pub place : end ≤ LAST_START + 258 * durable
  pub room_is : ROOM ≤ room
