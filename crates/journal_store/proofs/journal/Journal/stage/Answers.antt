use Rattle.journal_store.proofs.Leading.{can_again, leads-idle}
use Rattle.journal_store.proofs.journal.Journal.stage.Goals as goal

pub returns-in-Staged-clause-leads : goal.returns-in-Staged-clause-leads
returns-in-Staged-clause-leads g c told = (told, λ front drawn stands. leads-idle g.D.Disk.story front drawn c.args.self.now c.args.disk.now g.met.D.Disk.laws told stands)

pub returns-in-Missing : goal.returns-in-Missing
returns-in-Missing g c = record {
  settles = c.write_batch.ensures.settles;
  count = c.write_batch.ensures.count;
  staged = c.write_batch.ensures.staged;
  leads = c.write_batch.ensures.leads;
  again = can_again g.D.Disk.story c.args.self.now c.write_batch.new.self c.args.disk.now c.write_batch.new.disk c.requires.stands c.write_batch.ensures.leads;
  calls = c.write_batch.ensures.calls;
  cause = c.write_batch.ensures.cause;
}
