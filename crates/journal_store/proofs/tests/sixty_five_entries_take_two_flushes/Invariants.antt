use Rattle.disk_port.specs.Memory.{memory_story}
use Rattle.journal_store.specs.Standing.{CanFlush}
use Rattle.journal_store.proofs.tests.sixty_five_entries_take_two_flushes.Given as goal

abbrev pub invariant-entries : goal.invariant-entries
invariant-entries g l = CanFlush memory_story l.desk.journal l.desk.disk
