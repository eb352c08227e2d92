use Rattle.recovery.proofs.Heads.{digest-is}
use Rattle.recovery.proofs.head.digest.Goals as goal

pub returns : goal.returns
returns c =
    digest-is c.args.generation c.args.size c.args.base.now c.to_be_bytes.result c.to_be_bytes-2.result c.finalize.result c.to_be_bytes.ensures c.to_be_bytes-2.ensures
    (c.finalize.ensures _ (c.update-4.ensures _ (c.update-3.ensures _ (c.update-2.ensures _ (c.update.ensures _ c.new-hasher.ensures)))))
