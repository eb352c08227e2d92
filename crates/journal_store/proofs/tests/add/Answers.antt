use Rattle.disk_port.specs.Memory.{memory_story}
use Rattle.journal_store.proofs.Going.{can-drawn, can-reserved}
use Rattle.journal_store.proofs.tests.add.Goals as goal

pub returns : goal.returns
returns c =
    let reserved = can-reserved memory_story c.args.desk.now.journal c.reserve.new.self c.args.desk.now.disk c.requires c.reserve.ensures.place c.reserve.ensures.entries in
    can-drawn memory_story c.reserve.new.self c.draw.new.self c.prepared-prepared.result c.draw.result c.args.desk.now.disk reserved c.draw.ensures.draws
