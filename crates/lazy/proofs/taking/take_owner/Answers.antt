use Rattle.std.proofs.Common.{sym, ◌∙◌}
use Rattle.lazy.proofs.Taken.{account_there}
use Rattle.lazy.specs.Taking.{other_owner}
use Rattle.lazy.proofs.taking.take_owner.Goals as goal

pub returns : goal.returns
returns c =
    account_there c.args.cells.now (other_owner c.args.player c.args.planet.now) c.in-Some.owner c.in-Some-account.cell.now c.in_ok-copy.field-0 c.in_ok-copy-2.field-0 c.requires (sym c.in-Some.ensures)
    c.in-Some-account.ensures c.in_ok-copy.ensures c.in_ok-copy-2.ensures
