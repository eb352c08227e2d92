use Rattle.battle.proofs.Rows.{cell_is}
use Rattle.battle.proofs.rapid_fire.rapid_fire.Goals as goal

pub returns : goal.returns
returns c = rw (c.from.ensures, c.column.ensures, c.column-2.ensures) (cell_is c.args.from c.args.to)
