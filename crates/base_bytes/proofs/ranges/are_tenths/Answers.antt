use Rattle.std.proofs.Common.{◌↔◌, IsTrue, subst, sym}
use Rattle.planet_cell.specs.Bounds.{AreAtMost}
use Rattle.base_bytes.proofs.Totals.{at_most}
use Rattle.base_bytes.proofs.ranges.are_tenths.Goals as goal

pub returns : goal.returns
returns c = subst (λ b. IsTrue b ↔ AreAtMost 10 c.args.tenths.now) (sym c.are_within_ten.ensures) (at_most 10 c.args.tenths.now)
