use Rattle.std.proofs.Common.{refl, sym, ◌∙◌}
use Rattle.disk_port.proofs.Telling.{if_ok, elapses-either, tears-wrote, tears-wrote_nothing}
use Rattle.disk_port.proofs.memory.MemoryDiskDisk.write_at.Goals as goal

pub returns-then-next_fails-clause-images : goal.returns-then-next_fails-clause-images
returns-then-next_fails-clause-images c = λ told. (tt, tears-wrote_nothing _ _ _ c.args.at _ refl c.note.ensures)

pub returns-then-next_fails-clause-time : goal.returns-then-next_fails-clause-time
returns-then-next_fails-clause-time c = λ told. (tt, elapses-either _ _ _ refl c.note.ensures)

pub returns-clause-images : goal.returns-clause-images
returns-clause-images c =
    let noted = if_ok c.write_now.result c.write_now.ensures.noted (sym c.is_err.ensures.value ∙ c.if-is_err.false) in
    λ told. (tt, tears-wrote _ _ _ c.args.at noted.0 c.args.from.now refl noted.2 noted.1)
