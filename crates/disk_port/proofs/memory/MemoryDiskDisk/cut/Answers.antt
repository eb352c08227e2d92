use Rattle.std.proofs.Common.{refl}
use Rattle.disk_port.proofs.Telling.{elapses-either, tears-cut_nothing}
use Rattle.disk_port.proofs.memory.MemoryDiskDisk.cut.Goals as goal

pub returns-then-next_fails-clause-images : goal.returns-then-next_fails-clause-images
returns-then-next_fails-clause-images c = λ told. (tt, tears-cut_nothing _ _ _ c.args.len refl c.note.ensures)

pub returns-then-next_fails-clause-time : goal.returns-then-next_fails-clause-time
returns-then-next_fails-clause-time c = λ told. (tt, elapses-either _ _ _ refl c.note.ensures)
