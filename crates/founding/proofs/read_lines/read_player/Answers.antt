use Rattle.std.proofs.Common.{refl}
use Rattle.founding.proofs.Wording.{player_line}
use Rattle.founding.proofs.read_lines.read_player.Goals as goal

pub returns : goal.returns
returns c = player_line c.args.line.now c.in_ok-form.form.now c.in_ok-form.number.now c.player.result c.in_ok-form.ensures.split (c.if-not-is_same.ensures.0 refl) c.player.ensures
