use Rattle.std.proofs.Common.{refl, sym, ◌∙◌}
use Rattle.disk_port.proofs.Telling.{if_ok, settles-synced}
use Rattle.disk_port.proofs.memory.MemoryDiskDisk.sync.Goals as goal

pub returns-clause-images : goal.returns-clause-images
returns-clause-images c = λ told. (tt, settles-synced _ _ _ refl (if_ok c.sync_now.result c.sync_now.ensures.noted (sym c.is_err.ensures.value ∙ c.if-is_err.false)) refl)
