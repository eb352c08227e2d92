use Rattle.journal_store.proofs.Leading.{can_again, leads-idle, told-on}
use Rattle.journal_store.proofs.Settling.{keeps_settled}
use Rattle.journal_store.proofs.journal.Journal.flush.Goals as goal

pub returns-then-is_empty-clause-leads : goal.returns-then-is_empty-clause-leads
returns-then-is_empty-clause-leads g c told = (told, λ front drawn stands. leads-idle g.D.Disk.story front drawn c.args.self.now c.args.disk.now g.met.D.Disk.laws told stands)

pub returns-in_err-open_gate-clause-leads : goal.returns-in_err-open_gate-clause-leads
returns-in_err-open_gate-clause-leads g c =
    told-on g.D.Disk.story c.args.self.now c.stage.new.self c.open_gate.new.self c.args.disk.now c.stage.new.disk c.open_gate.new.disk c.stage.ensures.settles c.stage.ensures.leads c.open_gate.ensures.leads

pub returns-in_err-open_gate-clause-again : goal.returns-in_err-open_gate-clause-again
returns-in_err-open_gate-clause-again g c = can_again g.D.Disk.story c.stage.new.self c.open_gate.new.self c.stage.new.disk c.open_gate.new.disk c.stage.ensures.again c.open_gate.ensures.leads

pub returns-clause-keeps : goal.returns-clause-keeps
returns-clause-keeps g c start drawn keeps =
    keeps_settled start drawn c.in_ok-count.count c.stage.new.self c.open_gate.new.self c.in_ok-open_gate.ensures.ok (keeps_settled start drawn 0 c.args.self.now c.stage.new.self c.stage.ensures.settles keeps)

pub returns-clause-leads : goal.returns-clause-leads
returns-clause-leads g c =
    told-on g.D.Disk.story c.args.self.now c.stage.new.self c.open_gate.new.self c.args.disk.now c.stage.new.disk c.open_gate.new.disk c.stage.ensures.settles c.stage.ensures.leads c.open_gate.ensures.leads

pub returns-clause-again : goal.returns-clause-again
returns-clause-again g c = can_again g.D.Disk.story c.stage.new.self c.open_gate.new.self c.stage.new.disk c.open_gate.new.disk c.stage.ensures.again c.open_gate.ensures.leads
