use Rattle.std.proofs.Common.{◌+◌, refl, arith}
use Rattle.journal_store.specs.Ledger.{numbered}
use Rattle.journal_store.proofs.Appending.{keeps_more}
use Rattle.journal_store.proofs.journal.Journal.draw.Goals as goal

pub returns-clause-keeps : goal.returns-clause-keeps
returns-clause-keeps c start drawn keeps =
    let entry = numbered c.args.prepared (c.args.self.now.last_number + 1) in
    keeps_more start drawn c.args.self.now c.append.new.self entry (record { next = refl; latest = omega arith }) c.append.ensures keeps
