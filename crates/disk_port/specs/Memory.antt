-- What a disk in memory tells.
use Rattle.std.specs.Prelude.{◌≡◌, ℕ, ◌-◌, ◌==◌, List, length, reverse, ⊤, if◌then◌else◌}
use Rattle.std.proofs.Common.{sym, subst, arith}
use Rattle.std.proofs.lemmas.List.{length-reverse}
use Rattle.disk_port.specs.Story.{Story, Lawful}
use Rattle.disk_port.specs.History.{kept_of, marked_of, IsLeft, WasLeft}
use Rattle.disk_port.specs.HistoryLaws.{read_is_left, left_was_left, was_left_now}
use Rattle.disk_port.specs.declared.memory.MemoryDisk.{MemoryDisk}

-- it tells all of it; a moment is how many changes there were
abbrev pub memory_story : Story MemoryDisk
memory_story = record {
  tells = λ disk. ⊤;
  seen = λ disk. disk.bytes.items;
  leaves = λ disk. IsLeft disk.first.items (reverse disk.changes.items);
  moment = λ disk. length disk.changes.items;
  left_since = λ disk. WasLeft disk.first.items (reverse disk.changes.items);
}

-- which content this pick gives: 0 what a read gave at the last sync, 1 what a read gives, 2 and 3 the same but with 0, or
-- 1, for each byte that was written since the last sync
abbrev pub picked : MemoryDisk → ℕ → List ℕ
picked disk pick =
    if pick == 0 then kept_of disk.first.items (reverse disk.changes.items)
    else if pick == 1 then disk.bytes.items
    else marked_of (pick - 2) disk.first.items (reverse disk.changes.items)

-- A disk that holds this content, also after a crash, and has not been called.
pub record IsFresh (disk : MemoryDisk) (content : List ℕ) : Type 0 where
  pub seen : disk.bytes.items ≡ content
  pub durable : (c : List ℕ) → memory_story.leaves disk c → c ≡ content
  pub calls : disk.calls ≡ 0
  pub faults : disk.faults ≡ 0

-- what it tells holds together
pub memory_is_lawful : Lawful memory_story
memory_is_lawful = record {
  reads = λ disk told. subst (λ (c : List ℕ). IsLeft disk.first.items (reverse disk.changes.items) c) (sym disk.fits.read) (read_is_left disk.first.items (reverse disk.changes.items));
  now = λ disk t c told before left. left_was_left disk.first.items (reverse disk.changes.items) t c left;
  only_now = λ disk c told left. was_left_now disk.first.items (reverse disk.changes.items) (length disk.changes.items) c (omega (arith, length-reverse disk.changes.items)) left;
}
