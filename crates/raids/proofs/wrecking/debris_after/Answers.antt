use Rattle.raids.proofs.Counts.{debris_is}
use Rattle.raids.proofs.wrecking.debris_after.Goals as goal

pub returns : goal.returns
returns c lost metal crystal = debris_is c.args.there _ lost (c.littered.ensures _ metal) (c.littered-2.ensures _ crystal)
