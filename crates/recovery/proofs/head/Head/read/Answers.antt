use Rattle.recovery.proofs.Fronts.{head-read}
use Rattle.recovery.proofs.head.Head.read.Goals as goal

pub returns : goal.returns
returns c = λ content opens same. head-read content c.args.front.now _ opens same c.told-front c.fits-front c.number_at.ensures c.number_at-2.ensures c.copy_from_slice.ensures.after
