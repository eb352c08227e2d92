use Rattle.journal_store.proofs.Joining.{found-rests, holds-joined}
use Rattle.journal_store.proofs.laws.batches_join.Goals as goal

pub returns : goal.returns
returns c = record { found = found-rests; joined = holds-joined }
